use Rattle.std.proofs.Common.{rules}
use Rattle.change.specs.Laws.Single.{range_exits}
use Rattle.change.proofs.single.in_range.Goals as goal

pub returns-then-top-eq0 : goal.returns-then-top-eq0
returns-then-top-eq0 c = search (range_exits, rules)

pub returns-else-top-eq0 : goal.returns-else-top-eq0
returns-else-top-eq0 c = search (range_exits, rules)

pub returns-else-count-le14 : goal.returns-else-count-le14
returns-else-count-le14 c = search (range_exits, rules)
