use Rattle.std.proofs.Common.{rules}
use Rattle.nodes.proofs.Laws.Built.{version_built}
use Rattle.nodes.proofs.node.Node.with_version.Goals as goal

pub returns-clause-value : goal.returns-clause-value
returns-clause-value c = search (version_built, rules)
