use Rattle.std.proofs.Common.{rules}
use Rattle.nodes.specs.Range.{node_in_range}
use Rattle.nodes.proofs.node.Node.in_range.Goals as goal

pub returns : goal.returns
unfolding node_in_range
returns c = search rules
