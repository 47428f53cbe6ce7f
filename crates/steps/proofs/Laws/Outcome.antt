-- The table of outcomes, row by row.
use Rattle.std.specs.Prelude.{◌≡◌}
use Rattle.std.proofs.Common.{sym, ap, ◌∙◌}
use Rattle.steps.specs.declared.outcome.Outcome.{Outcome}
use Rattle.steps.specs.declared.outcome.Line.{Line}
use Rattle.steps.specs.Outcome.{line}

-- the way out of each arm of the match
pub shows : (o p : Outcome) (r : Line) → o ≡ p → r ≡ line p → r ≡ line o
shows o p r e h = h ∙ ap line (sym e)
