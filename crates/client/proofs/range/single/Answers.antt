use Rattle.nodes.specs.Lists.{pad}
use Rattle.nodes.specs.Node.{free_node, made}
use Rattle.client.specs.Record.{single}
use Rattle.client.proofs.range.single.Goals as goal

pub returns : goal.returns
unfolding single free_node made pad
returns c = rw c.free.ensures
