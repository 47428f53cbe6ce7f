use Rattle.std.proofs.Common.{arith}
use Rattle.std.proofs.lemmas.Grind.{common_steps}
use Rattle.client.specs.Items.{inner}
use Rattle.client.proofs.items.is_inner.Goals as goal

pub returns-in-Metadata : goal.returns-in-Metadata
unfolding inner
returns-in-Metadata c = grind (arith, common_steps)

pub returns-in-Node : goal.returns-in-Node
unfolding inner
returns-in-Node c = grind (arith, common_steps)

pub returns-in-Flag : goal.returns-in-Flag
unfolding inner
returns-in-Flag c = grind (arith, common_steps)
