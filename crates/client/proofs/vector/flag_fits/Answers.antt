use Rattle.std.proofs.Common.{arith}
use Rattle.std.proofs.lemmas.Grind.{common_steps}
use Rattle.client.specs.Vectors.{flag_fits}
use Rattle.client.proofs.vector.flag_fits.Goals as goal

pub returns-then-server-s : goal.returns-then-server-s
unfolding flag_fits
returns-then-server-s c = grind (arith, common_steps)

pub returns-else-server-s : goal.returns-else-server-s
unfolding flag_fits
returns-else-server-s c = grind (arith, common_steps)

pub returns-in_default : goal.returns-in_default
unfolding flag_fits
returns-in_default c = grind (arith, common_steps)
