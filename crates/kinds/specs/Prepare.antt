-- A prepare's stores: the locks, the note, the decision.
use Rattle.std.specs.Prelude.{true, List, ℕ}
use Rattle.layout.specs.Space.{Put}
use Rattle.steps.specs.declared.sizes.Sizes.{Sizes}
use Rattle.steps.specs.Whole.{Address, client}
use Rattle.client.specs.Fits.{fit_to_apply}
use Rattle.steps.specs.Steps.{Did, if_fit, then, preparing, deciding_stores, applied_at}

-- the locks, and the note that this server has prepared
unfoldable pub prepares : Sizes → ℕ → ℕ → (Address → ℕ) → List (Put Address)
prepares z c s m = preparing z m c s

-- and the decision
unfoldable pub decides : Sizes → ℕ → ℕ → (Address → ℕ) → List (Put Address)
decides z c s m = deciding_stores z m c s

-- ---- the only participant
unfoldable pub applies_too : Sizes → ℕ → ℕ → (Address → ℕ) → Did
applies_too z c s m = if_fit (fit_to_apply z.slots (λ a. m (client c a)) s true) (then m (decides z c s m) (λ u. applied_at z u c s))
