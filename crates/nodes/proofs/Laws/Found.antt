-- The ways out of a search that answers with a place.
use Rattle.std.specs.Prelude.{ℕ, ◌<◌, ◌≡◌, refl, true, false}
use Rattle.std.proofs.Common.{sym, ap, true≢false, arith}
use Rattle.std.proofs.Math.Option.{Option, none, some}
use Rattle.nodes.specs.Found.{Found}
use Rattle.std.specs.Prelude.{Some, None}
use Rattle.nodes.specs.Found.{found, Inside}

absent_not : (i : ℕ) → None ≡ Some i → ⊥
absent_not i e = true≢false (ap (λ (f : Found). elim f [ Some i ↦ false | None ↦ true ]) e)

at_same : (i j : ℕ) → Some i ≡ Some j → i ≡ j
at_same i j e = ap (λ (f : Found). elim f [ Some k ↦ k | None ↦ 0 ]) e

pub absent_inside : (n : ℕ) → Inside None n
absent_inside n = record { inside = λ i e. absurd (absent_not i e) }

pub at_inside : (n i : ℕ) → i < n → Inside (Some i) n
at_inside n i h = record { inside = λ j e. let q : i ≡ j = at_same i j e in omega arith }

-- an index that was found is below the end: for callers, after a match
pub found_inside : (f : Found) (n i : ℕ) → Inside f n → f ≡ Some i → i < n
found_inside f n i h e = h.inside i e

-- what was found from what was answered
pub found_some : (x : Option ℕ) (i : ℕ) → found x ≡ Some i → x ≡ some i
unfolding found
found_some none i e = absurd (absent_not i e)
found_some (some j) i e = ap some (at_same j i e)

pub found_none : (x : Option ℕ) → found x ≡ None → x ≡ none
unfolding found
found_none none e = refl
found_none (some j) e = absurd (absent_not j (sym e))
