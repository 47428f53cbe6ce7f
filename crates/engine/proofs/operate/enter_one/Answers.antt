use Rattle.std.proofs.Common.{rules}
use Rattle.engine.specs.Laws.Work.{single_entered}
use Rattle.engine.proofs.operate.enter_one.Goals as goal

pub returns-in-Some : goal.returns-in-Some
returns-in-Some c = rw c.in-Some.is (search (single_entered, rules))

pub returns-in_default : goal.returns-in_default
returns-in_default c = rw c.in_default.is (search (single_entered, rules))
