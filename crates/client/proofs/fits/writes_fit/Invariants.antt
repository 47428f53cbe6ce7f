use Rattle.client.specs.Fits.{write_fits}
use Rattle.client.specs.Sets.{held}
use Rattle.client.specs.Laws.Commit.{Sofar}
use Rattle.client.proofs.fits.writes_fit.Given as goal

abbrev pub invariant-loop-i : goal.invariant-loop-i
invariant-loop-i l = Sofar (write_fits l.slots (held l.part) l.server) l.i-end l.i
