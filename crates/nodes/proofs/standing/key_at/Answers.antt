use Rattle.std.proofs.Common.{rules}
use Rattle.nodes.proofs.Laws.Standing.{key_there}
use Rattle.nodes.proofs.standing.key_at.Goals as goal

pub returns : goal.returns
returns c = search (key_there, rules)
