use Rattle.std.proofs.Common.{◌≡◌}
use Rattle.client.specs.Participants.{lowest_of}
use Rattle.kinds.proofs.fits.lowest_in.Given as goal

abbrev pub invariant-loop-s : goal.invariant-loop-s
invariant-loop-s l = lowest_of l.s l.set ≡ l.s
