use Rattle.std.proofs.Common.{arith}
use Rattle.std.proofs.lemmas.Grind.{common_steps}
use Rattle.client.specs.Fits.{fit_to_apply}
use Rattle.client.proofs.fits.fit_to_apply.Goals as goal

pub returns-then-not-last : goal.returns-then-not-last
unfolding fit_to_apply
returns-then-not-last c = grind (arith, common_steps)

pub returns-else-not-last : goal.returns-else-not-last
unfolding fit_to_apply
returns-else-not-last c = grind (arith, common_steps)

pub returns-else-writes_fit : goal.returns-else-writes_fit
unfolding fit_to_apply
returns-else-writes_fit c = grind (arith, common_steps)
