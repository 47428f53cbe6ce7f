use Rattle.std.proofs.Common.{rules}
use Rattle.engine.specs.Laws.Work.{work_unfit, waiting_client, unlisted_output}
use Rattle.engine.proofs.operate.work.Goals as goal

pub returns-then-not-fit_to_work-clause-comes : goal.returns-then-not-fit_to_work-clause-comes
returns-then-not-fit_to_work-clause-comes c = (work_unfit _ _ _ _ c.fit_to_work.ensures (search rules)).0

pub returns-then-not-fit_to_work-clause-output : goal.returns-then-not-fit_to_work-clause-output
returns-then-not-fit_to_work-clause-output c = unlisted_output _ _ _ _ (work_unfit _ _ _ _ c.fit_to_work.ensures (search rules)).1

pub operate-requires-clause-waiting_client : goal.operate-requires-clause-waiting_client
operate-requires-clause-waiting_client c = waiting_client _ _ _ _ c.fit_to_work.ensures (search rules) (search rules) (search rules) (search rules)
