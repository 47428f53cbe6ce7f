use Rattle.std.proofs.Common.{arith}
use Rattle.std.proofs.lemmas.Grind.{common_steps}
use Rattle.client.specs.Commit.{inner_at}
use Rattle.client.proofs.commit.inner_at.Goals as goal

pub returns-in-Node : goal.returns-in-Node
unfolding inner_at
returns-in-Node c = grind (arith, common_steps, c.in-Node.ensures.bounds)

pub returns-in_default : goal.returns-in_default
unfolding inner_at
returns-in_default c = grind (arith, common_steps)
