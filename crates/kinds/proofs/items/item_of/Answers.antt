use Rattle.std.proofs.Common.{rules}
use Rattle.kinds.specs.Laws.Items.{item_exits}
use Rattle.kinds.proofs.items.item_of.Goals as goal

pub returns : goal.returns
returns c = search (item_exits, rules)
