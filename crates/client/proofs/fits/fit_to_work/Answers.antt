use Rattle.std.proofs.Common.{arith}
use Rattle.std.proofs.lemmas.Grind.{common_steps}
use Rattle.client.specs.Fits.{fit_to_work}
use Rattle.client.proofs.fits.fit_to_work.Goals as goal

pub returns-then-op_fits : goal.returns-then-op_fits
unfolding fit_to_work
returns-then-op_fits c = grind (arith, common_steps)

pub returns-else-op_fits : goal.returns-else-op_fits
unfolding fit_to_work
returns-else-op_fits c = grind (arith, common_steps)
