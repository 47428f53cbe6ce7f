use Rattle.std.proofs.Common.{arith}
use Rattle.std.proofs.lemmas.Grind.{common_steps}
use Rattle.client.specs.Fits.{renewal_fits}
use Rattle.client.proofs.fits.renewal_fits.Goals as goal

pub returns-then-number_at-gt-LAST_NODE_NUMBER : goal.returns-then-number_at-gt-LAST_NODE_NUMBER
unfolding renewal_fits
returns-then-number_at-gt-LAST_NODE_NUMBER c = grind (arith, common_steps)

pub returns-else-number_at-gt-LAST_NODE_NUMBER : goal.returns-else-number_at-gt-LAST_NODE_NUMBER
unfolding renewal_fits
returns-else-number_at-gt-LAST_NODE_NUMBER c = grind (arith, common_steps)
