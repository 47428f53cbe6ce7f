use Rattle.std.proofs.Common.{arith}
use Rattle.std.proofs.lemmas.Grind.{common_steps}
use Rattle.client.specs.Fits.{fit_to_commit}
use Rattle.client.proofs.fits.fit_to_commit.Goals as goal

pub returns-then-all_read : goal.returns-then-all_read
unfolding fit_to_commit
returns-then-all_read c = grind (arith, common_steps)

pub returns-else-all_read : goal.returns-else-all_read
unfolding fit_to_commit
returns-else-all_read c = grind (arith, common_steps)
