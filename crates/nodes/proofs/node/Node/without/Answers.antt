use Rattle.std.proofs.Common.{rules}
use Rattle.nodes.proofs.Laws.Built.{without_built}
use Rattle.nodes.proofs.node.Node.without.Goals as goal

pub returns-clause-value : goal.returns-clause-value
returns-clause-value c = search (without_built, rules)
