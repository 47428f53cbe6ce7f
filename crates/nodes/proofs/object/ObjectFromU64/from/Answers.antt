use Rattle.std.proofs.Common.{rules}
use Rattle.nodes.proofs.Laws.Object.{is_metadata, is_node, is_flag}
use Rattle.nodes.proofs.object.ObjectFromU64.from.Goals as goal

pub returns-then-number-eq0-clause-value : goal.returns-then-number-eq0-clause-value
returns-then-number-eq0-clause-value c = search (is_metadata, rules)

pub returns-then-number-le-END-clause-value : goal.returns-then-number-le-END-clause-value
returns-then-number-le-END-clause-value c = search (is_node, rules)

pub returns-clause-value : goal.returns-clause-value
returns-clause-value c = search (is_flag, rules)
