use Rattle.std.proofs.Common.{rules}
use Rattle.client.specs.Laws.Look.{stands_copied}
use Rattle.client.proofs.lookup.node_stands.Goals as goal

pub returns-in-Some-node_copy-clause-result_value : goal.returns-in-Some-node_copy-clause-result_value
returns-in-Some-node_copy-clause-result_value c = search (stands_copied, rules)

pub returns-in-None-clause-result_value : goal.returns-in-None-clause-result_value
returns-in-None-clause-result_value c = search (stands_copied, rules)
