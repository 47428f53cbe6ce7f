-- Tests of all and of any elements, element by element.
use Rattle.std.specs.Prelude.{◌≡◌, refl, Bool, true, List, [], ◌∷◌, ◌⊎◌}
use Rattle.std.proofs.Common.{sym, subst, inl, inr}
use Rattle.std.proofs.lemmas.Bool.{false≢true}
use Rattle.base.specs.Test.{and_both}
use Rattle.base.proofs.Laws.Test.{or_left, or_right, or_cases}
use Rattle.protocol.specs.Lists.{Among, all, any}

pub all_among : {A : Type 0} (f : A → Bool) (l : List A) (a : A) → all f l ≡ true → Among a l → f a ≡ true
unfolding all Among
all_among f [] a h i = absurd i
all_among f (b ∷ l) a h (inl e) = subst (λ c. f c ≡ true) (sym e) (and_both (f b) (all f l) h).0
all_among f (b ∷ l) a h (inr i) = all_among f l a (and_both (f b) (all f l) h).1 i

pub any_among : {A : Type 0} (f : A → Bool) (l : List A) (a : A) → f a ≡ true → Among a l → any f l ≡ true
unfolding any Among
any_among f [] a h i = absurd i
any_among f (b ∷ l) a h (inl e) = or_left (f b) (any f l) (subst (λ c. f c ≡ true) e h)
any_among f (b ∷ l) a h (inr i) = or_right (f b) (any f l) (any_among f l a h i)

pub any_in : {A : Type 0} (f : A → Bool) (l : List A) → any f l ≡ true → (a : A) × Among a l × (f a ≡ true)
unfolding any Among
any_in f [] h = absurd (false≢true h)
any_in {A} f (a ∷ l) h = go (or_cases (f a) (any f l) h) (any_in f l)
  where
    go : (f a ≡ true) ⊎ (any f l ≡ true) → (any f l ≡ true → (b : A) × Among b l × (f b ≡ true)) → (b : A) × Among b (a ∷ l) × (f b ≡ true)
    go (inl e) rec = (a, inl refl, e)
    go (inr e) rec = let r = rec e in (r.0, inr r.1, r.2)

pub all_in : {A : Type 0} (f : A → Bool) (l : List A) → ((a : A) → Among a l → f a ≡ true) → all f l ≡ true
unfolding all Among
all_in f [] h = refl
all_in f (a ∷ l) h = rw (h a (inl refl)) (all_in f l (λ b i. h b (inr i)))
