use Rattle.schedule.proofs.Laws.Listed.{none_done, one_done, all_done}
use Rattle.schedule.proofs.run.run.Goals as goal

pub loop-i-init : goal.loop-i-init
loop-i-init c = none_done _ _ _ _

pub loop-i-preserved : goal.loop-i-preserved
loop-i-preserved c =
    one_done _ _ _ _ _ _ _ _ _ _ _ _ c.loop-i.invariant c.loop-i-test.true c.loop-i.auto.mem c.loop-i.auto.out c.turn.ensures.turns c.turn.ensures.reached

pub returns : goal.returns
returns c = all_done _ _ _ _ _ _ _ _ c.loop-i.invariant c.loop-i-test.false
