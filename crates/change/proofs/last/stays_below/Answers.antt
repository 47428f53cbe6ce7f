use Rattle.std.proofs.Common.{rules}
use Rattle.change.specs.Laws.Last.{below_exits}
use Rattle.change.proofs.last.stays_below.Goals as goal

pub returns-then-number-gt-LAST_NODE_NUMBER : goal.returns-then-number-gt-LAST_NODE_NUMBER
returns-then-number-gt-LAST_NODE_NUMBER c = search (below_exits, rules)

pub returns-else-number-gt-LAST_NODE_NUMBER : goal.returns-else-number-gt-LAST_NODE_NUMBER
returns-else-number-gt-LAST_NODE_NUMBER c = search (below_exits, rules)
