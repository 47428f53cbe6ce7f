use Rattle.std.proofs.Common.{rules}
use Rattle.nodes.specs.Change.{wide_keys, wide_slots, part, narrow}
use Rattle.nodes.proofs.change.Wide.node.Goals as goal

pub returns-clause-value : goal.returns-clause-value
unfolding narrow part wide_keys wide_slots
returns-clause-value c = search rules
