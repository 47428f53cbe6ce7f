-- A loss: an abort, and then all copies go.
use Rattle.std.specs.Prelude.{List, [], ℕ}
use Rattle.layout.specs.Space.{Put}
use Rattle.layout.specs.Step.{and_then}
use Rattle.layout.specs.Part.{in_part}
use Rattle.client.specs.Copies.{drop_all}
use Rattle.steps.specs.declared.sizes.Sizes.{Sizes}
use Rattle.steps.specs.declared.outcome.Outcome.TheVariants.{Aborted}
use Rattle.steps.specs.Whole.{Address, client, whole}
use Rattle.steps.specs.Judge.{abort_fits}
use Rattle.steps.specs.Steps.{Did, did, if_fit}
use Rattle.kinds.specs.Abort.{aborts}

-- an abort, and then all copies go
unfoldable pub losing : Sizes → ℕ → (Address → ℕ) → List (Put Address)
losing z c = and_then whole (aborts z c []) (in_part (client c) drop_all)

unfoldable pub loses_undecided : Sizes → ℕ → (Address → ℕ) → Did
loses_undecided z c m = if_fit (abort_fits z m c) (did (Aborted 7) (losing z c m))
