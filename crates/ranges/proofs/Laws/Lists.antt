-- Lists all of whose elements pass.
use Rattle.std.specs.Prelude.{◌≡◌, refl, Bool, true, List, [], ◌∷◌, ◌++◌, map, ℕ, zero, suc, ◌<◌, length, get_or}
use Rattle.std.proofs.Common.{arith}
use Rattle.base.specs.Test.{and_both}
use Rattle.plans.specs.Walk.{Every}
use Rattle.operations.proofs.Laws.Storable.{every_append}
use Rattle.client.specs.Record.{all}
use Rattle.steps.specs.Uses.{each}

pub every_weaker : {A : Type 0} (P Q : A → Type 0) → ((a : A) → P a → Q a) → (l : List A) → Every P l → Every Q l
unfolding Every
every_weaker P Q f [] h = tt
every_weaker P Q f (a ∷ l) h = (f a h.0, every_weaker P Q f l h.1)

pub every_map : {A B : Type 0} (P : A → Type 0) (Q : B → Type 0) (f : A → B) → ((a : A) → P a → Q (f a)) → (l : List A) → Every P l → Every Q (map f l)
unfolding Every
every_map P Q f h [] g = tt
every_map P Q f h (a ∷ l) g = (h a g.0, every_map P Q f h l g.1)

pub every_more : {A : Type 0} (Q : A → Type 0) (l : List A) (a : A) → Every Q l → Q a → Every Q (l ++ (a ∷ []))
unfolding Every
every_more Q l a h q = every_append Q l (a ∷ []) h (q, tt)

pub every_each : {A : Type 0} (Q : A → Type 0) (n : ℕ) (f : ℕ → A) → ((i : ℕ) → i < n → Q (f i)) → Every Q (each n f)
unfolding each Every
every_each Q zero f h = tt
every_each Q (suc n) f h = every_more Q (each n f) (f n) (every_each Q n f (λ i l. h i (omega arith))) (h n (omega arith))

pub every_at : {A : Type 0} (P : A → Type 0) (d : A) (l : List A) → Every P l → (i : ℕ) → i < length l → P (get_or l i d)
unfolding Every
every_at P d [] h i l = absurd (omega arith)
every_at P d (a ∷ m) h zero l = h.0
every_at P d (a ∷ m) h (suc i) l = every_at P d m h.1 i (omega arith)

-- a test of all of them
pub all_every : {A : Type 0} (f : A → Bool) (l : List A) → all f l ≡ true → Every (λ a. f a ≡ true) l
unfolding all Every
all_every f [] h = tt
all_every f (a ∷ l) h = let b = and_both (f a) (all f l) h in (b.0, all_every f l b.1)

pub every_all : {A : Type 0} (f : A → Bool) (l : List A) → Every (λ a. f a ≡ true) l → all f l ≡ true
unfolding all Every
every_all f [] h = refl
every_all f (a ∷ l) h = rw h.0 (every_all f l h.1)
