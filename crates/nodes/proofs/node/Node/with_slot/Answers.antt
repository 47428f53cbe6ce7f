use Rattle.std.proofs.Common.{rules}
use Rattle.nodes.proofs.Laws.Built.{slot_built}
use Rattle.nodes.proofs.node.Node.with_slot.Goals as goal

pub returns-clause-value : goal.returns-clause-value
returns-clause-value c = search (slot_built, rules)
