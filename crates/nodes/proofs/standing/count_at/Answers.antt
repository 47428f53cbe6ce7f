use Rattle.std.proofs.Common.{rules}
use Rattle.nodes.proofs.Laws.Standing.{count_there}
use Rattle.nodes.proofs.standing.count_at.Goals as goal

pub returns : goal.returns
returns c = search (count_there, rules)
