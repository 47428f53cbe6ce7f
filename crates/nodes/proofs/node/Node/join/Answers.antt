use Rattle.std.proofs.Common.{rules}
use Rattle.nodes.proofs.Laws.Built.{join_built}
use Rattle.nodes.proofs.node.Node.join.Goals as goal

pub returns-clause-value : goal.returns-clause-value
returns-clause-value c = search (join_built, rules)
