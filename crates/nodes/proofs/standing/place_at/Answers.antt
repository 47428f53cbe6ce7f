use Rattle.std.proofs.Common.{rules}
use Rattle.nodes.proofs.Laws.Counting.{answered}
use Rattle.nodes.proofs.standing.place_at.Goals as goal

pub returns-clause-value : goal.returns-clause-value
returns-clause-value c = search (answered, rules)
