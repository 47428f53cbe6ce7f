use Rattle.client.specs.Sets.{held}
use Rattle.client.specs.Renew.{rank}
use Rattle.client.specs.Laws.Find.{Searched}
use Rattle.client.proofs.renew.ranked.Given as goal

abbrev pub invariant-loop-i : goal.invariant-loop-i
invariant-loop-i l = Searched (rank (held l.part)) l.i-end l.k l.i
