use Rattle.std.proofs.Common.{rules, refl}
use Rattle.engine.specs.Laws.Work.{single_answers}
use Rattle.engine.proofs.operate.change.Goals as goal

pub returns-in-Ok-Some-clause-comes : goal.returns-in-Ok-Some-clause-comes
returns-in-Ok-Some-clause-comes c =
    let h = rw c.in-Ok-Some.field-0-is at c.in-Ok-Some.ensures in
    (single_answers c.args.sizes _ c.args.client (search rules) (search rules) (search rules) (search rules) (search rules) _ _ _ (h.enters refl) _ c.store_single.ensures).0

pub returns-in-Ok-Some-clause-pairs : goal.returns-in-Ok-Some-clause-pairs
returns-in-Ok-Some-clause-pairs c =
    let h = rw c.in-Ok-Some.field-0-is at c.in-Ok-Some.ensures in
    (single_answers c.args.sizes _ c.args.client (search rules) (search rules) (search rules) (search rules) (search rules) _ _ _ (h.enters refl) _ c.store_single.ensures).1
