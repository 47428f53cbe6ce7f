use Rattle.std.proofs.Common.{rules}
use Rattle.layout.specs.Block.{size}
use Rattle.server.specs.Layout.{part_words}
use Rattle.server.proofs.place.part_words.Goals as goal

pub returns-clause-value : goal.returns-clause-value
unfolding part_words size
returns-clause-value c = search rules
