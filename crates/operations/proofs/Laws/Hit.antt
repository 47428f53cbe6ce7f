-- Whether a write hits an object is decided by their equality.
use Rattle.std.specs.Prelude.{◌≡◌, refl, true, false, ◌⊎◌}
use Rattle.std.proofs.Common.{ap, sym, subst, inl, inr}
use Rattle.std.proofs.lemmas.Bool.{false≢true}
use Rattle.std.proofs.Math.Decide.{ℕ_discrete}
use Rattle.base.specs.Test.{yes?}
use Rattle.base.proofs.Laws.Test.{yes_of, of_yes, bool_cases}
use Rattle.operations.specs.Object.{Obj, meta, node, flag, hit}

pub hit_eq : (a b : Obj) → hit a b ≡ true → a ≡ b
hit_eq meta meta h = refl
hit_eq meta (node x) h = absurd (false≢true h)
hit_eq meta (flag x) h = absurd (false≢true h)
hit_eq (node n) meta h = absurd (false≢true h)
hit_eq (node n) (node x) h = ap node (sym (yes_of (ℕ_discrete x n) h))
hit_eq (node n) (flag x) h = absurd (false≢true h)
hit_eq (flag n) meta h = absurd (false≢true h)
hit_eq (flag n) (node x) h = absurd (false≢true h)
hit_eq (flag n) (flag x) h = ap flag (sym (yes_of (ℕ_discrete x n) h))

pub hit_self : (o : Obj) → hit o o ≡ true
hit_self meta = refl
hit_self (node n) = of_yes (ℕ_discrete n n) refl
hit_self (flag n) = of_yes (ℕ_discrete n n) refl

pub hit_is : (a b : Obj) (d : Dec (b ≡ a)) → hit a b ≡ yes? d
hit_is a b (yes p) = subst (λ z. hit a z ≡ true) (sym p) (hit_self a)
hit_is a b (no q) = go (bool_cases (hit a b))
  where
    go : (hit a b ≡ true) ⊎ (hit a b ≡ false) → hit a b ≡ false
    go (inl h) = absurd (q (sym (hit_eq a b h)))
    go (inr h) = h
