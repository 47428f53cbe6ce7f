use Rattle.std.proofs.Common.{arith}
use Rattle.std.proofs.lemmas.Grind.{common_steps}
use Rattle.client.specs.Fits.{fit_to_abort}
use Rattle.client.proofs.fits.fit_to_abort.Goals as goal

pub returns-then-servers_fit : goal.returns-then-servers_fit
unfolding fit_to_abort
returns-then-servers_fit c = grind (arith, common_steps)

pub returns-else-servers_fit : goal.returns-else-servers_fit
unfolding fit_to_abort
returns-else-servers_fit c = grind (arith, common_steps)
