use Rattle.std.proofs.Common.{arith}
use Rattle.std.proofs.lemmas.Grind.{common_steps}
use Rattle.client.specs.Items.{inner_before_after}
use Rattle.client.proofs.items.inner_before_after.Goals as goal

pub returns-then-inner_in : goal.returns-then-inner_in
unfolding inner_before_after
returns-then-inner_in c = grind (arith, common_steps)

pub returns-else-inner_in : goal.returns-else-inner_in
unfolding inner_before_after
returns-else-inner_in c = grind (arith, common_steps)
