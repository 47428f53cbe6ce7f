use Rattle.std.proofs.Common.{rules}
use Rattle.nodes.proofs.Laws.Standing.{level_there}
use Rattle.nodes.proofs.standing.level_at.Goals as goal

pub returns : goal.returns
returns c = search (level_there, rules)
