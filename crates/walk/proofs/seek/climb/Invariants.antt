use Rattle.walk.specs.Down.{turns_in}
use Rattle.walk.specs.Laws.Seek.{Climbing}
use Rattle.walk.proofs.seek.climb.Given as goal

abbrev pub invariant-loop-l : goal.invariant-loop-l
invariant-loop-l l = Climbing l.right l.top (turns_in l.part l.path) l.level l.l
