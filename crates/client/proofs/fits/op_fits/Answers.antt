use Rattle.std.proofs.Common.{arith}
use Rattle.std.proofs.lemmas.Grind.{common_steps}
use Rattle.client.specs.Fits.{op_fits}
use Rattle.client.proofs.fits.op_fits.Goals as goal

pub returns-in-6 : goal.returns-in-6
unfolding op_fits
returns-in-6 c = grind (arith, common_steps)

pub returns-in-7 : goal.returns-in-7
unfolding op_fits
returns-in-7 c = grind (arith, common_steps)

pub returns-in_default : goal.returns-in_default
unfolding op_fits
returns-in_default c = grind (arith, common_steps)
