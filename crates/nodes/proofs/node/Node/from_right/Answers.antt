use Rattle.std.proofs.Common.{rules}
use Rattle.nodes.proofs.Laws.Built.{right_moved}
use Rattle.nodes.proofs.node.Node.from_right.Goals as goal

pub returns-clause-value : goal.returns-clause-value
returns-clause-value c = search (right_moved, rules)
