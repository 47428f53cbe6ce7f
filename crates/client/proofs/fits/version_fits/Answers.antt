use Rattle.std.proofs.Common.{arith}
use Rattle.std.proofs.lemmas.Grind.{common_steps}
use Rattle.client.specs.Fits.{version_fits}
use Rattle.client.proofs.fits.version_fits.Goals as goal

pub returns-then-not-is_stored : goal.returns-then-not-is_stored
unfolding version_fits
returns-then-not-is_stored c = grind (arith, common_steps)

pub returns-else-not-is_stored : goal.returns-else-not-is_stored
unfolding version_fits
returns-else-not-is_stored c = grind (arith, common_steps)
