use Rattle.client.specs.Sets.{held}
use Rattle.client.specs.Laws.Commit.{Sofar}
use Rattle.change.specs.Laws.Last.{below_at}
use Rattle.change.proofs.last.all_below.Given as goal

abbrev pub invariant-loop-i : goal.invariant-loop-i
invariant-loop-i l = Sofar (below_at (held l.part) l.own) l.i-end l.i
