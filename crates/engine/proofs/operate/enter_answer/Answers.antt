use Rattle.std.proofs.Common.{rules}
use Rattle.engine.specs.Laws.Work.{answer_entered}
use Rattle.engine.proofs.operate.enter_answer.Goals as goal

pub returns : goal.returns
returns c = search (answer_entered, rules)
