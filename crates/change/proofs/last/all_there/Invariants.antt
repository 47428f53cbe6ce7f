use Rattle.client.specs.Sets.{held}
use Rattle.client.specs.Laws.Commit.{Sofar}
use Rattle.change.specs.Laws.Last.{there_at}
use Rattle.change.proofs.last.all_there.Given as goal

abbrev pub invariant-loop-i : goal.invariant-loop-i
invariant-loop-i l = Sofar (there_at (held l.part) l.own) l.i-end l.i
