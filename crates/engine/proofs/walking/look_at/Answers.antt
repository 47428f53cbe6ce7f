use Rattle.std.proofs.Common.{rules}
use Rattle.engine.specs.Laws.Work.{walk_lent}
use Rattle.engine.proofs.walking.look_at.Goals as goal

pub look-requires-clause-waits : goal.look-requires-clause-waits
look-requires-clause-waits c = search (walk_lent, rules)

pub returns : goal.returns
returns c = search (walk_lent, rules)
