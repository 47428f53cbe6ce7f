use Rattle.std.proofs.Common.{rules}
use Rattle.engine.specs.Laws.Work.{seen_entered}
use Rattle.engine.proofs.operate.enter_seen.Goals as goal

pub returns : goal.returns
returns c = search (seen_entered, rules)
