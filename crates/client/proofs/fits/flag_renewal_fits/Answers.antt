use Rattle.std.proofs.Common.{arith}
use Rattle.std.proofs.lemmas.Grind.{common_steps}
use Rattle.client.specs.Fits.{flag_renewal_fits}
use Rattle.client.proofs.fits.flag_renewal_fits.Goals as goal

pub returns-then-vector_word-le1 : goal.returns-then-vector_word-le1
unfolding flag_renewal_fits
returns-then-vector_word-le1 c = grind (arith, common_steps)

pub returns-else-vector_word-le1 : goal.returns-else-vector_word-le1
unfolding flag_renewal_fits
returns-else-vector_word-le1 c = grind (arith, common_steps)
