use Rattle.client.specs.Fits.{is_read}
use Rattle.client.specs.Sets.{held}
use Rattle.client.specs.Laws.Commit.{Sofar}
use Rattle.client.proofs.fits.all_read.Given as goal

abbrev pub invariant-loop-i : goal.invariant-loop-i
invariant-loop-i l = Sofar (is_read (held l.part)) l.i-end l.i
