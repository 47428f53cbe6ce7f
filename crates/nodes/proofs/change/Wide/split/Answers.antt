use Rattle.std.proofs.Common.{rules}
use Rattle.nodes.specs.Change.{split}
use Rattle.nodes.proofs.change.Wide.split.Goals as goal

pub returns-clause-value : goal.returns-clause-value
unfolding split
returns-clause-value c = search rules
