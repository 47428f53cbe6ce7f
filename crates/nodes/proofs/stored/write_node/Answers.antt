use Rattle.std.proofs.Common.{rules}
use Rattle.nodes.proofs.Laws.Stored.{node_written}
use Rattle.nodes.proofs.stored.write_node.Goals as goal

pub returns : goal.returns
returns c = search (node_written, rules)
