use Rattle.std.proofs.Common.{rules}
use Rattle.nodes.proofs.Laws.Built.{left_moved}
use Rattle.nodes.proofs.node.Node.from_left.Goals as goal

pub returns-clause-value : goal.returns-clause-value
returns-clause-value c = search (left_moved, rules)
