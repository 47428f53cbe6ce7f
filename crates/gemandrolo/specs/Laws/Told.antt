-- What is reached, by the numbers that a program gets: the last clause of a contract follows from the others.
use Rattle.std.specs.Prelude.{◌≡◌, List, [], ◌∷◌, ℕ, length}
use Rattle.std.proofs.Common.{sym, ◌∙◌, subst}
use Rattle.memory.specs.Word.{view}
use Rattle.steps.specs.declared.step.Step.{Step}
use Rattle.steps.specs.declared.outcome.Outcome.{Outcome}
use Rattle.steps.specs.Outcome.{line}
use Rattle.steps.specs.Taken.{came_to, outcome_from}
use Rattle.steps.proofs.Laws.Taken.{same_outcome}
use Rattle.engine.specs.Step.{outcome_of}
use Rattle.engine.specs.Reached.{GoesOn}

module _ (b b' : List ℕ) where
  -- o is what `step` returned, and r, a and c are its numbers
  pub tells : (k : Step) (lent left : List ℕ) (o : Outcome) (r a c : ℕ) → let x = outcome_of (length b) (view b) (length lent) k in o ≡ x
      → GoesOn b (came_to k (length lent) (view lent) o (view left) ∷ []) b' → r ≡ (line x).outcome → a ≡ (line x).a → c ≡ (line x).b
      → GoesOn b (came_to k (length lent) (view lent) (outcome_from r a c) (view left) ∷ []) b'
  tells k lent left o r a c p g x y w =
      subst (λ (u : Outcome). GoesOn b (came_to k (length lent) (view lent) u (view left) ∷ []) b')
      (p ∙ sym (rw (x, y, w) (same_outcome (outcome_of (length b) (view b) (length lent) k)))) g
