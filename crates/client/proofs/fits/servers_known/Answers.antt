use Rattle.std.proofs.Common.{arith}
use Rattle.std.proofs.lemmas.Grind.{common_steps}
use Rattle.client.specs.Fits.{servers_known}
use Rattle.client.proofs.fits.servers_known.Goals as goal

pub returns-then-not-all_take_part : goal.returns-then-not-all_take_part
unfolding servers_known
returns-then-not-all_take_part c = grind (arith, common_steps)

pub returns-else-not-all_take_part : goal.returns-else-not-all_take_part
unfolding servers_known
returns-else-not-all_take_part c = grind (arith, common_steps)
