use Rattle.std.proofs.Common.{rules}
use Rattle.layout.specs.Space.{at}
use Rattle.layout.specs.Block.{offset, size}
use Rattle.client.proofs.part.vector_at.Goals as goal

pub returns-clause-value : goal.returns-clause-value
unfolding at offset size
returns-clause-value c = search rules
