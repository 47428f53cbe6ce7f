use Rattle.std.proofs.Common.{rules}
use Rattle.walk.specs.Laws.Seek.{first_exits}
use Rattle.walk.proofs.seek.to_first.Goals as goal

pub returns-clause-value : goal.returns-clause-value
returns-clause-value c = search (first_exits, rules)
