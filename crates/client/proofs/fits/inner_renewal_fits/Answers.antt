use Rattle.std.proofs.Common.{arith}
use Rattle.std.proofs.lemmas.Grind.{common_steps}
use Rattle.client.specs.Fits.{inner_renewal_fits}
use Rattle.client.proofs.fits.inner_renewal_fits.Goals as goal

pub returns-then-not-is_inner : goal.returns-then-not-is_inner
unfolding inner_renewal_fits
returns-then-not-is_inner c = grind (arith, common_steps)

pub returns-then-whole_fits : goal.returns-then-whole_fits
unfolding inner_renewal_fits
returns-then-whole_fits c = grind (arith, common_steps)

pub returns-else-whole_fits : goal.returns-else-whole_fits
unfolding inner_renewal_fits
returns-else-whole_fits c = grind (arith, common_steps)
