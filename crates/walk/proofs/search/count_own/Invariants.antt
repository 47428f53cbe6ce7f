use Rattle.walk.specs.Laws.Counted.{Counting}
use Rattle.walk.proofs.search.count_own.Given as goal

abbrev pub invariant-loop-i : goal.invariant-loop-i
invariant-loop-i l = Counting l.own l.s l.initial.words l.words l.i
