use Rattle.std.proofs.Common.{rules}
use Rattle.kinds.specs.Laws.Locks.{change_exits}
use Rattle.kinds.proofs.locks.change_item.Goals as goal

pub returns-then-is_locked_at : goal.returns-then-is_locked_at
returns-then-is_locked_at c = search (change_exits, rules)

pub returns-else-is_locked_at : goal.returns-else-is_locked_at
returns-else-is_locked_at c = search (change_exits, rules)
