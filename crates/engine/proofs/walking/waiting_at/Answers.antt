use Rattle.std.proofs.Common.{rules}
use Rattle.engine.specs.Laws.Work.{walk_lent}
use Rattle.engine.proofs.walking.waiting_at.Goals as goal

pub returns : goal.returns
returns c = search (walk_lent, rules)
