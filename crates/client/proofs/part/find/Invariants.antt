use Rattle.client.specs.Sets.{held, number_at}
use Rattle.client.specs.Laws.Find.{Searched}
use Rattle.client.proofs.part.find.Given as goal

abbrev pub invariant-loop-i : goal.invariant-loop-i
invariant-loop-i l = Searched (number_at (held l.part) l.set) l.i-end l.number l.i
