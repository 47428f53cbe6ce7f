use Rattle.std.proofs.Common.{rules}
use Rattle.kinds.specs.Laws.Items.{item_exits}
use Rattle.kinds.proofs.items.is_checked_at.Goals as goal

pub returns-then-server-lowest : goal.returns-then-server-lowest
returns-then-server-lowest c = search (item_exits, rules)

pub returns-then-item : goal.returns-then-item
returns-then-item c = search (item_exits, rules)

pub returns : goal.returns
returns c = search (item_exits, rules)
