use Rattle.client.specs.Laws.Commit.{Sofar}
use Rattle.memory.specs.Word.{view}
use Rattle.kinds.specs.Change.{phase_fits}
use Rattle.kinds.proofs.change.phases_fit.Given as goal

abbrev pub invariant-loop-c : goal.invariant-loop-c
invariant-loop-c l = Sofar (phase_fits l.sizes (view l.mem)) l.c-end l.c
