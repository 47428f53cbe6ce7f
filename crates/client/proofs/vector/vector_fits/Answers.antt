use Rattle.std.proofs.Common.{arith}
use Rattle.std.proofs.lemmas.Grind.{common_steps}
use Rattle.client.specs.Vectors.{vector_fits}
use Rattle.client.proofs.vector.vector_fits.Goals as goal

pub returns-then-vector_word-le1 : goal.returns-then-vector_word-le1
unfolding vector_fits
returns-then-vector_word-le1 c = grind (arith, common_steps)

pub returns-else-vector_word-le1 : goal.returns-else-vector_word-le1
unfolding vector_fits
returns-else-vector_word-le1 c = grind (arith, common_steps)
