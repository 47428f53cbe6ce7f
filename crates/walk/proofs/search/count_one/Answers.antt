use Rattle.std.proofs.Common.{rules}
use Rattle.walk.specs.Laws.Counted.{count_exits}
use Rattle.walk.proofs.search.count_one.Goals as goal

pub returns-then-number-lt-FIRST_FLAG_NUMBER : goal.returns-then-number-lt-FIRST_FLAG_NUMBER
returns-then-number-lt-FIRST_FLAG_NUMBER c = search (count_exits, rules)

pub returns-then-server-s : goal.returns-then-server-s
returns-then-server-s c = search (count_exits, rules)

pub returns : goal.returns
returns c = search (count_exits, rules)
