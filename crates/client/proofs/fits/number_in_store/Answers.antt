use Rattle.std.proofs.Common.{arith}
use Rattle.std.proofs.lemmas.Grind.{common_steps}
use Rattle.client.specs.Record.{number_in_store}
use Rattle.client.proofs.fits.number_in_store.Goals as goal

pub returns-in-Metadata : goal.returns-in-Metadata
unfolding number_in_store
returns-in-Metadata c = grind (arith, common_steps)

pub returns-in-Node : goal.returns-in-Node
unfolding number_in_store
returns-in-Node c = grind (arith, common_steps)
