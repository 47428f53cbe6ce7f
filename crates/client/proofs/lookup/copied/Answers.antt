use Rattle.std.proofs.Common.{rules}
use Rattle.client.specs.Laws.Look.{copied_exits}
use Rattle.client.proofs.lookup.copied.Goals as goal

pub returns-in_err-m : goal.returns-in_err-m
returns-in_err-m c = search (copied_exits, rules)

pub returns-then-number-eq0 : goal.returns-then-number-eq0
returns-then-number-eq0 c = search (copied_exits, rules)

pub returns-in_err-at : goal.returns-in_err-at
returns-in_err-at c = search (copied_exits, rules)

pub returns-then-number-le-LAST_NODE_NUMBER : goal.returns-then-number-le-LAST_NODE_NUMBER
returns-then-number-le-LAST_NODE_NUMBER c = search (copied_exits, rules)

pub returns-in_err-value : goal.returns-in_err-value
returns-in_err-value c = search (copied_exits, rules)

pub returns : goal.returns
returns c = search (copied_exits, rules)
