use Rattle.std.proofs.Common.{rules}
use Rattle.nodes.proofs.Laws.Standing.{slot_there}
use Rattle.nodes.proofs.standing.slot_at.Goals as goal

pub returns : goal.returns
returns c = search (slot_there, rules)
