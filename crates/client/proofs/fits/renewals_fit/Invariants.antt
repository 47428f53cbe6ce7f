use Rattle.client.specs.Fits.{renewal_fits}
use Rattle.client.specs.Sets.{held}
use Rattle.client.specs.Laws.Commit.{Sofar}
use Rattle.client.proofs.fits.renewals_fit.Given as goal

abbrev pub invariant-loop-i : goal.invariant-loop-i
invariant-loop-i l = Sofar (renewal_fits l.slots (held l.part)) l.i-end l.i
