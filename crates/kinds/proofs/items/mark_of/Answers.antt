use Rattle.std.proofs.Common.{rules}
use Rattle.kinds.specs.Laws.Items.{item_exits}
use Rattle.kinds.proofs.items.mark_of.Goals as goal

pub returns-then-number-le8192 : goal.returns-then-number-le8192
returns-then-number-le8192 c = search (item_exits, rules)

pub returns : goal.returns
returns c = search (item_exits, rules)
