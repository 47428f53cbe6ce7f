use Rattle.std.proofs.Common.{rules}
use Rattle.nodes.proofs.Laws.Built.{key_built}
use Rattle.nodes.proofs.node.Node.with_key.Goals as goal

pub returns-clause-value : goal.returns-clause-value
returns-clause-value c = search (key_built, rules)
