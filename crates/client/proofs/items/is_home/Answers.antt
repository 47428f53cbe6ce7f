use Rattle.std.proofs.Common.{arith}
use Rattle.std.proofs.lemmas.Grind.{common_steps}
use Rattle.client.specs.Participants.{at_home}
use Rattle.client.proofs.items.is_home.Goals as goal

pub returns-in-Metadata : goal.returns-in-Metadata
unfolding at_home
returns-in-Metadata c = grind (arith, common_steps)

pub returns-in-Node : goal.returns-in-Node
unfolding at_home
returns-in-Node c = grind (arith, common_steps)
