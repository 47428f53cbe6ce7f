use Rattle.std.proofs.Common.{rules}
use Rattle.nodes.proofs.Laws.Found.{found_inside}
use Rattle.kinds.specs.Laws.Items.{item_exits}
use Rattle.kinds.proofs.items.as_written.Goals as goal

pub returns-in-Some : goal.returns-in-Some
returns-in-Some c = search (found_inside, item_exits, rules)

pub returns-in-None : goal.returns-in-None
returns-in-None c = search (found_inside, item_exits, rules)
