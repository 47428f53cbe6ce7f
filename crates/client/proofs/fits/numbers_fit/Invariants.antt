use Rattle.client.specs.Fits.{number_fits}
use Rattle.client.specs.Sets.{held}
use Rattle.client.specs.Laws.Commit.{Sofar}
use Rattle.client.proofs.fits.numbers_fit.Given as goal

abbrev pub invariant-loop-i : goal.invariant-loop-i
invariant-loop-i l = Sofar (number_fits l.slots (held l.part) l.set) l.i-end l.i
