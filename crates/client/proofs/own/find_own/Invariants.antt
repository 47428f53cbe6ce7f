use Rattle.client.specs.Lent.{own_number}
use Rattle.client.specs.Laws.Find.{Searched}
use Rattle.client.proofs.own.find_own.Given as goal

abbrev pub invariant-loop-i : goal.invariant-loop-i
invariant-loop-i l = Searched (own_number l.own) l.i-end l.number l.i
