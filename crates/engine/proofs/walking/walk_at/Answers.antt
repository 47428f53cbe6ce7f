use Rattle.std.proofs.Common.{rules}
use Rattle.engine.specs.Laws.Work.{walk_lent}
use Rattle.engine.proofs.walking.walk_at.Goals as goal

pub work-requires-clause-waits : goal.work-requires-clause-waits
work-requires-clause-waits c = search (walk_lent, rules)

pub returns : goal.returns
returns c = search (walk_lent, rules)
