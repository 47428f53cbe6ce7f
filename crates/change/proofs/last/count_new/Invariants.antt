use Rattle.client.specs.Sets.{held}
use Rattle.change.specs.Laws.Last.{Counted}
use Rattle.change.proofs.last.count_new.Given as goal

abbrev pub invariant-loop-i : goal.invariant-loop-i
invariant-loop-i l = Counted (held l.part) l.own l.i-end l.i l.c
