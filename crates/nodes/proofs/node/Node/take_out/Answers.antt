use Rattle.std.proofs.Common.{rules}
use Rattle.nodes.proofs.Laws.Built.{take_out_is}
use Rattle.nodes.proofs.node.Node.take_out.Goals as goal

pub returns-clause-value : goal.returns-clause-value
returns-clause-value c = search (take_out_is, rules)
