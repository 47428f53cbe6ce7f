use Rattle.std.proofs.Common.{arith}
use Rattle.std.proofs.lemmas.Grind.{common_steps}
use Rattle.client.specs.Fits.{stored_record_fits}
use Rattle.client.proofs.fits.stored_record_fits.Goals as goal

pub returns-then-not-is_home : goal.returns-then-not-is_home
unfolding stored_record_fits
returns-then-not-is_home c = grind (arith, common_steps)

pub returns-else-not-is_home : goal.returns-else-not-is_home
unfolding stored_record_fits
returns-else-not-is_home c = grind (arith, common_steps)
