use Rattle.walk.specs.Laws.Down.{TakenOut}
use Rattle.walk.proofs.down.turns.Given as goal

abbrev pub invariant-loop-i : goal.invariant-loop-i
invariant-loop-i l = TakenOut l.part l.path l.out l.i
