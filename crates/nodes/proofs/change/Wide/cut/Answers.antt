use Rattle.std.proofs.Common.{rules}
use Rattle.nodes.proofs.Laws.Built.{cut_built}
use Rattle.nodes.proofs.change.Wide.cut.Goals as goal

pub returns-clause-value : goal.returns-clause-value
returns-clause-value c = search (cut_built, rules)
