use Rattle.std.proofs.Common.{rules}
use Rattle.nodes.proofs.Laws.Standing.{kind_there}
use Rattle.nodes.proofs.standing.kind_at.Goals as goal

pub returns : goal.returns
returns c = search (kind_there, rules)
