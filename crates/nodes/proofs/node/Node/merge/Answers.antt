use Rattle.std.proofs.Common.{rules}
use Rattle.nodes.proofs.Laws.Built.{merged_is}
use Rattle.nodes.proofs.node.Node.merge.Goals as goal

pub returns-clause-value : goal.returns-clause-value
returns-clause-value c = search (merged_is, rules)
