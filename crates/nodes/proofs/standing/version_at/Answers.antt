use Rattle.std.proofs.Common.{rules}
use Rattle.nodes.proofs.Laws.Standing.{version_there}
use Rattle.nodes.proofs.standing.version_at.Goals as goal

pub returns : goal.returns
returns c = search (version_there, rules)
