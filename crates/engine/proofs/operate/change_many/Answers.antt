use Rattle.std.proofs.Common.{rules}
use Rattle.engine.specs.Laws.Work.{change_answers}
use Rattle.engine.proofs.operate.change_many.Goals as goal

pub returns-in-Ok-clause-comes : goal.returns-in-Ok-clause-comes
returns-in-Ok-clause-comes c = (change_answers c.args.sizes _ c.args.client (search rules) (search rules) (search rules) (search rules) (search rules) _ _ _ _ _ _ c.in-Ok.ensures _ c.store_answer.ensures).0

pub returns-in-Ok-clause-pairs : goal.returns-in-Ok-clause-pairs
returns-in-Ok-clause-pairs c = (change_answers c.args.sizes _ c.args.client (search rules) (search rules) (search rules) (search rules) (search rules) _ _ _ _ _ _ c.in-Ok.ensures _ c.store_answer.ensures).1
