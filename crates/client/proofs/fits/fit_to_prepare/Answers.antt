use Rattle.std.proofs.Common.{arith}
use Rattle.std.proofs.lemmas.Grind.{common_steps}
use Rattle.client.specs.Fits.{fit_to_prepare}
use Rattle.client.proofs.fits.fit_to_prepare.Goals as goal

pub returns-then-servers_fit-2 : goal.returns-then-servers_fit-2
unfolding fit_to_prepare
returns-then-servers_fit-2 c = grind (arith, common_steps)

pub returns-else-servers_fit-2 : goal.returns-else-servers_fit-2
unfolding fit_to_prepare
returns-else-servers_fit-2 c = grind (arith, common_steps)
