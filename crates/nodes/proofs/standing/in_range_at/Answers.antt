use Rattle.std.proofs.Common.{rules}
use Rattle.nodes.proofs.Laws.Standing.{range_there}
use Rattle.nodes.proofs.standing.in_range_at.Goals as goal

pub returns : goal.returns
returns c = search (range_there, rules)
