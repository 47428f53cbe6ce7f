use Rattle.client.specs.Sets.{held}
use Rattle.client.specs.Laws.Renew.{Ranking}
use Rattle.client.proofs.renew.inner_below.Given as goal

abbrev pub invariant-loop-i : goal.invariant-loop-i
invariant-loop-i l = Ranking (held l.part) l.number l.i-end l.below l.i
