use Rattle.std.proofs.Common.{rules}
use Rattle.nodes.proofs.Laws.Stored.{node_read}
use Rattle.nodes.proofs.stored.read_node.Goals as goal

pub returns : goal.returns
returns c = search (node_read, rules)
