use Rattle.std.proofs.Common.{rules}
use Rattle.nodes.proofs.Laws.Search.{looked_none, looked_more, looked_all, slot_found, slot_beyond}
use Rattle.nodes.proofs.Laws.Found.{absent_inside, at_inside}
use Rattle.nodes.proofs.vector.free_from.Goals as goal

pub returns-then-slot-slots-clause-value : goal.returns-then-slot-slots-clause-value
returns-then-slot-slots-clause-value c = search (slot_found, rules)

pub returns-else-slot-slots-clause-value : goal.returns-else-slot-slots-clause-value
returns-else-slot-slots-clause-value c = search (slot_beyond, looked_all, rules)

pub loop-w-preserved : goal.loop-w-preserved
loop-w-preserved c = search (looked_more, rules)

pub returns-clause-value : goal.returns-clause-value
returns-clause-value c = search (looked_none, slot_found, at_inside, slot_beyond, absent_inside, looked_more, looked_all, rules)
