use Rattle.std.proofs.Common.{arith}
use Rattle.std.proofs.lemmas.Grind.{common_steps}
use Rattle.client.specs.Record.{record_in_range}
use Rattle.client.proofs.range.fits.Goals as goal

pub returns-in-Metadata : goal.returns-in-Metadata
unfolding record_in_range
returns-in-Metadata c = grind (arith, common_steps)

pub returns-in-Node : goal.returns-in-Node
unfolding record_in_range
returns-in-Node c = grind (arith, common_steps)

pub returns-in-Flag : goal.returns-in-Flag
unfolding record_in_range
returns-in-Flag c = grind (arith, common_steps)
