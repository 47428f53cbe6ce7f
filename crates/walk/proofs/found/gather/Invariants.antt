use Rattle.walk.specs.Laws.Found.{Gathers}
use Rattle.walk.proofs.found.gather.Given as goal

abbrev pub invariant-loop-j : goal.invariant-loop-j
invariant-loop-j l = Gathers l.part l.leaf l.w l.initial.found l.start l.count l.j-end l.found l.j
