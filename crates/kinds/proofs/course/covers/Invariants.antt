use Rattle.client.specs.Laws.Commit.{Sofar}
use Rattle.kinds.specs.Course.{covered}
use Rattle.kinds.proofs.course.covers.Given as goal

abbrev pub invariant-loop-s : goal.invariant-loop-s
invariant-loop-s l = Sofar (covered l.set l.done) l.n l.s
