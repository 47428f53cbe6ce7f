use Rattle.std.proofs.Common.{rules}
use Rattle.kinds.specs.Laws.Change.{larger_first, larger_second}
use Rattle.kinds.proofs.change.larger.Goals as goal

pub returns-then-a-b : goal.returns-then-a-b
returns-then-a-b c = search (larger_second, larger_first, rules)

pub returns : goal.returns
returns c = search (larger_second, larger_first, rules)
