use Rattle.std.proofs.Common.{arith}
use Rattle.std.proofs.lemmas.Grind.{common_steps}
use Rattle.client.specs.Record.{whole_in_range}
use Rattle.client.proofs.range.whole_fits.Goals as goal

pub returns-in-Node : goal.returns-in-Node
unfolding whole_in_range
returns-in-Node c = grind (arith, common_steps)

pub returns-in_default : goal.returns-in_default
unfolding whole_in_range
returns-in_default c = grind (arith, common_steps)
