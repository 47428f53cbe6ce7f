-- "Apply writes and unlocks": what code stores at one server.
use Rattle.std.specs.Prelude.{List, ℕ}
use Rattle.layout.specs.Space.{Put}
use Rattle.steps.specs.declared.sizes.Sizes.{Sizes}
use Rattle.steps.specs.Whole.{Address}
use Rattle.steps.specs.Steps.{applying}

-- "Apply writes and unlocks"
unfoldable pub applies : Sizes → ℕ → ℕ → (Address → ℕ) → List (Put Address)
applies z c s m = applying z m c s
