-- What stands at an address after a list of stores.
use Rattle.std.specs.Prelude.{◌≡◌, Bool, cond}
use Rattle.std.proofs.Math.Path.{refl, subst}
use Rattle.std.proofs.Common.{sym, ap, ◌∙◌, arith}
use mathlib.Core.List.{List, [], ◌∷◌, ◌++◌}
use Prim.Native.Nat.{ℕ, zero, suc, ◌<◌}
use Rattle.base.specs.Update.{upd}
use Rattle.layout.specs.Space.{Coding, ReadsBack, Put, put, same, written, changed}
use Rattle.layout.proofs.Laws.Space.{written_other, written_is, decide}
use Rattle.layout.specs.Step.{and_then}
use Rattle.layout.proofs.Laws.Step.{changed_append}
use Rattle.layout.specs.Sweep.{sweep}

-- what a store makes of the value at x
upd_cond : {A : Type 0} (C : Coding A) (r : ReadsBack C) (m : A → ℕ) (a : A) (w : ℕ) (x : A) (b : Bool) → same (C.code x) (C.code a) ≡ b
    → upd (decide C r) m a w x ≡ cond b w (m x)
unfolding written
upd_cond C r m a w x b h = ap (λ (u : _ → ℕ). u x) (sym (written_is C r m a w)) ∙ ap (λ (t : Bool). cond t w (m x)) h

module _ {A : Type 0} (C : Coding A) where
  -- the last store at x, else v: for stores at known addresses this computes
  abbrev pub last : List (Put A) → A → ℕ → ℕ
  last [] x v = v
  last (put a w ∷ ps) x v = last ps x (cond (same (C.code x) (C.code a)) w v)

  pub read_after : (ps : List (Put A)) (m : A → ℕ) (x : A) → changed C m ps x ≡ last ps x (m x)
  unfolding changed written
  read_after [] m x = refl
  read_after (put a w ∷ ps) m x = read_after ps (written C m a w) x

  -- what one step after another keeps, and a loop of them
  module _ (R : (A → ℕ) → Type 0) where
    pub then_keeps : (f g : (A → ℕ) → List (Put A)) (m : A → ℕ) → R (changed C m (f m)) → ((u : A → ℕ) → R u → R (changed C u (g u)))
        → R (changed C m (and_then C f g m))
    unfolding and_then
    then_keeps f g m r h = subst R (sym (changed_append C (f m) (g (changed C m (f m))) m)) (h (changed C m (f m)) r)

    pub sweep_keeps : (g : ℕ → (A → ℕ) → List (Put A)) (n : ℕ) → ((i : ℕ) (u : A → ℕ) → i < n → R u → R (changed C u (g i u)))
        → (m : A → ℕ) → R m → R (changed C m (sweep C g n m))
    unfolding sweep changed
    sweep_keeps g zero h m r = r
    sweep_keeps g (suc n) h m r =
        then_keeps (sweep C g n) (g n) m (sweep_keeps g n (λ i u l. h i u (omega arith)) m r) (λ u. h n u (omega arith))

  -- every store is as Q says
  unfoldable pub Only : (A → ℕ → Type 0) → List (Put A) → Type 0
  Only Q [] = Unit {0}
  Only Q (put a v ∷ ps) = Q a v × Only Q ps

  module _ (Q : A → ℕ → Type 0) where
    pub only_append : (ps qs : List (Put A)) → Only Q ps → Only Q qs → Only Q (ps ++ qs)
    unfolding Only
    only_append [] qs h g = g
    only_append (put a v ∷ ps) qs h g = (h.0, only_append ps qs h.1 g)

    pub only_then : (f g : (A → ℕ) → List (Put A)) (m : A → ℕ) → Only Q (f m) → ((u : A → ℕ) → Only Q (g u)) → Only Q (and_then C f g m)
    unfolding and_then
    only_then f g m h k = only_append (f m) (g (changed C m (f m))) h (k (changed C m (f m)))

    pub only_sweep : (g : ℕ → (A → ℕ) → List (Put A)) (n : ℕ) (m : A → ℕ) → ((i : ℕ) (u : A → ℕ) → Only Q (g i u)) → Only Q (sweep C g n m)
    unfolding sweep Only
    only_sweep g zero m h = tt
    only_sweep g (suc n) m h = only_then (sweep C g n) (g n) m (only_sweep g n m h) (h n)

    pub only_mono : (Q' : A → ℕ → Type 0) → ((a : A) (v : ℕ) → Q a v → Q' a v) → (ps : List (Put A)) → Only Q ps → Only Q' ps
    unfolding Only
    only_mono Q' f [] h = tt
    only_mono Q' f (put a v ∷ ps) h = (f a v h.0, only_mono Q' f ps h.1)

    -- what holds before each such store and stays, holds after
    pub only_keeps : (R : (A → ℕ) → Type 0) → ((m : A → ℕ) (a : A) (v : ℕ) → Q a v → R m → R (written C m a v))
        → (ps : List (Put A)) (m : A → ℕ) → Only Q ps → R m → R (changed C m ps)
    unfolding Only changed
    only_keeps R f [] m h r = r
    only_keeps R f (put a v ∷ ps) m h r = only_keeps R f ps (written C m a v) h.1 (f m a v h.0 r)

-- an address at which no such store is
pub only_other : {A : Type 0} (C : Coding A) (r : ReadsBack C) (Q : A → ℕ → Type 0) (x : A) → ((a : A) (v : ℕ) → Q a v → ¬ (x ≡ a))
    → (ps : List (Put A)) (m : A → ℕ) → Only C Q ps → changed C m ps x ≡ m x
only_other C r Q x n ps m h =
    only_keeps C Q (λ u. u x ≡ m x) (λ u a v q e. written_other C r u a v x (n a v q) ∙ e) ps m h refl
