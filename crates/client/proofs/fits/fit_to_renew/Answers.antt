use Rattle.std.proofs.Common.{arith}
use Rattle.std.proofs.lemmas.Grind.{common_steps}
use Rattle.client.specs.Fits.{fit_to_renew}
use Rattle.client.proofs.fits.fit_to_renew.Goals as goal

pub returns-in-0 : goal.returns-in-0
unfolding fit_to_renew
returns-in-0 c = grind (arith, common_steps)

pub returns-in_default : goal.returns-in_default
unfolding fit_to_renew
returns-in_default c = grind (arith, common_steps)
