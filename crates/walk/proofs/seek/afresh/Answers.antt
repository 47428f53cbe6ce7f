use Rattle.std.proofs.Common.{rules}
use Rattle.walk.specs.Laws.Near.{again}
use Rattle.walk.proofs.seek.afresh.Goals as goal

pub returns : goal.returns
returns c = search (again, rules)
