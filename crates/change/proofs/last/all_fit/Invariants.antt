use Rattle.client.specs.Laws.Commit.{Sofar}
use Rattle.change.specs.Laws.Last.{fits_at}
use Rattle.change.proofs.last.all_fit.Given as goal

abbrev pub invariant-loop-i : goal.invariant-loop-i
invariant-loop-i l = Sofar (fits_at l.own) l.i-end l.i
