use Rattle.std.proofs.Common.{rules}
use Rattle.walk.specs.Laws.Down.{kid_exits}
use Rattle.walk.proofs.down.see_child.Goals as goal

pub returns-then-not-below_node : goal.returns-then-not-below_node
returns-then-not-below_node c = let h = c.in_ok-node.ensures in search (kid_exits, rules)

pub returns : goal.returns
returns c = let h = c.in_ok-node.ensures in search (kid_exits, rules)
