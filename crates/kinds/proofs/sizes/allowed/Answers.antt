use Rattle.std.proofs.Common.{rules}
use Rattle.kinds.specs.Laws.Parts.{size_exits}
use Rattle.kinds.proofs.sizes.allowed.Goals as goal

pub returns-then-between-2 : goal.returns-then-between-2
returns-then-between-2 c = search (size_exits, rules)

pub returns-else-between-2 : goal.returns-else-between-2
returns-else-between-2 c = search (size_exits, rules)

pub returns-else-between : goal.returns-else-between
returns-else-between c = search (size_exits, rules)
