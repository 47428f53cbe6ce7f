use Rattle.std.proofs.Common.{rules}
use Rattle.nodes.specs.Node.{made, parent_of}
use Rattle.nodes.specs.Lists.{pad}
use Rattle.nodes.proofs.node.Node.over.Goals as goal

pub returns : goal.returns
unfolding made pad parent_of
returns c = search rules
