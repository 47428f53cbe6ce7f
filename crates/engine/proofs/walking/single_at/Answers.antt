use Rattle.std.proofs.Common.{rules}
use Rattle.engine.specs.Laws.Work.{walk_lent}
use Rattle.engine.proofs.walking.single_at.Goals as goal

pub write_single-requires-clause-waits : goal.write_single-requires-clause-waits
write_single-requires-clause-waits c = search (walk_lent, rules)

pub returns : goal.returns
returns c = search (walk_lent, rules)
