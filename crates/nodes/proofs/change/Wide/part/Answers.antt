use Rattle.std.proofs.Common.{rules}
use Rattle.nodes.proofs.Laws.Built.{part_built}
use Rattle.nodes.proofs.change.Wide.part.Goals as goal

pub returns-clause-value : goal.returns-clause-value
returns-clause-value c = search (part_built, rules)
