use Rattle.std.proofs.Common.{arith, sym, ◌∙◌}
use Rattle.nodes.proofs.Laws.Range.{range_count}
use Rattle.std.proofs.lemmas.Grind.{common_steps}
use Rattle.client.specs.Record.{node_fits}
use Rattle.client.proofs.range.node_fits.Goals as goal

pub children_there-requires : goal.children_there-requires
unfolding node_fits
children_there-requires c = range_count _ (sym c.in_range.ensures ∙ c.if-in_range.true)

pub returns-then-in_range : goal.returns-then-in_range
unfolding node_fits
returns-then-in_range c = grind (arith, common_steps)

pub returns-else-in_range : goal.returns-else-in_range
unfolding node_fits
returns-else-in_range c = grind (arith, common_steps)
