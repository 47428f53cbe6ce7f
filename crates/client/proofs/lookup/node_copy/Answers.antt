use Rattle.std.proofs.Common.{rules}
use Rattle.client.specs.Laws.Look.{node_copies}
use Rattle.client.proofs.lookup.node_copy.Goals as goal

pub returns-in_err-i-clause-value : goal.returns-in_err-i-clause-value
returns-in_err-i-clause-value c = search (node_copies, rules)

pub returns-clause-value : goal.returns-clause-value
returns-clause-value c = search (node_copies, rules)
