use Rattle.std.proofs.Common.{rules}
use Rattle.nodes.specs.Node.{made, free_node}
use Rattle.nodes.specs.Lists.{pad}
use Rattle.nodes.proofs.node.Node.free.Goals as goal

pub returns : goal.returns
unfolding free_node made pad
returns c = search rules
