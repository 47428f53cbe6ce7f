use Rattle.std.proofs.Common.{arith}
use Rattle.std.proofs.lemmas.Grind.{common_steps}
use Rattle.client.specs.Fits.{write_fits}
use Rattle.client.proofs.fits.write_fits.Goals as goal

pub returns-then-stored_record_fits : goal.returns-then-stored_record_fits
unfolding write_fits
returns-then-stored_record_fits c = grind (arith, common_steps)

pub returns-else-stored_record_fits : goal.returns-else-stored_record_fits
unfolding write_fits
returns-else-stored_record_fits c = grind (arith, common_steps)
