use Rattle.nodes.specs.Lists.{pad}
use Rattle.nodes.specs.Node.{free_node, made}
use Rattle.client.specs.Record.{metadata}
use Rattle.client.proofs.range.metadata.Goals as goal

pub returns : goal.returns
unfolding metadata free_node made pad
returns c = rw c.free.ensures
