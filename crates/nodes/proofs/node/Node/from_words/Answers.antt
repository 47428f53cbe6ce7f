use Rattle.std.proofs.Common.{rules}
use Rattle.nodes.proofs.Laws.Stored.{node_built}
use Rattle.nodes.proofs.node.Node.from_words.Goals as goal

pub returns : goal.returns
returns c = search (node_built, rules)
