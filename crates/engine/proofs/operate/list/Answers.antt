use Rattle.std.proofs.Common.{rules}
use Rattle.engine.specs.Laws.Work.{look_answers, unlisted_output, listed_output}
use Rattle.engine.proofs.operate.list.Goals as goal

pub returns-in-Err-clause-output : goal.returns-in-Err-clause-output
returns-in-Err-clause-output c = unlisted_output _ _ _ _ c.unanswered.ensures.pairs

pub returns-in-Ok-clause-comes : goal.returns-in-Ok-clause-comes
returns-in-Ok-clause-comes c = (look_answers c.args.sizes _ c.args.client (search rules) (search rules) (search rules) (search rules) (search rules) _ _ _ _ _ c.in-Ok.ensures.over_client _ c.store_seen.ensures).0

pub returns-in-Ok-clause-output : goal.returns-in-Ok-clause-output
returns-in-Ok-clause-output c =
    let p = look_answers c.args.sizes _ c.args.client (search rules) (search rules) (search rules) (search rules) (search rules) _ _ _ _ _ c.in-Ok.ensures.over_client _ c.store_seen.ensures in
    listed_output c.args.sizes _ c.args.client _ _ _ p.1 c.put_pairs.ensures
