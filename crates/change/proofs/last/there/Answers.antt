use Rattle.std.proofs.Common.{rules}
use Rattle.change.specs.Laws.Last.{there_exits}
use Rattle.change.proofs.last.there.Goals as goal

pub returns-then-number-gt-LAST_NODE_NUMBER : goal.returns-then-number-gt-LAST_NODE_NUMBER
returns-then-number-gt-LAST_NODE_NUMBER c = search (there_exits, rules)

pub returns-else-number-gt-LAST_NODE_NUMBER : goal.returns-else-number-gt-LAST_NODE_NUMBER
returns-else-number-gt-LAST_NODE_NUMBER c = search (there_exits, rules)
