use Rattle.std.proofs.Common.{arith}
use Rattle.std.proofs.lemmas.Grind.{common_steps}
use Rattle.client.specs.Record.{kind_in_range}
use Rattle.client.proofs.range.kind_fits.Goals as goal

pub returns-in-Node : goal.returns-in-Node
unfolding kind_in_range
returns-in-Node c = grind (arith, common_steps)

pub returns-in_default : goal.returns-in_default
unfolding kind_in_range
returns-in_default c = grind (arith, common_steps)
