use Rattle.std.proofs.Common.{rules}
use Rattle.kinds.specs.Laws.Change.{changing_exits}
use Rattle.kinds.specs.Laws.Parts.{holds_as}
use Rattle.kinds.proofs.change.store_change.Goals as goal

pub returns-then-is_add : goal.returns-then-is_add
returns-then-is_add c = search (holds_as, changing_exits, rules)

pub returns-else-is_add : goal.returns-else-is_add
returns-else-is_add c = search (holds_as, changing_exits, rules)
