use Rattle.schedule.proofs.Laws.Listed.{SoFar}
use Rattle.schedule.proofs.run.run.Given as goal

abbrev pub invariant-loop-i : goal.invariant-loop-i
invariant-loop-i l = SoFar l.fn.mem l.fn.out l.fn.outcomes l.fn.steps l.i l.mem l.out l.outcomes
