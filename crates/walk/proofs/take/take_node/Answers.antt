use Rattle.std.proofs.Common.{rules}
use Rattle.walk.specs.Laws.Take.{taken_node_exits}
use Rattle.walk.proofs.take.take_node.Goals as goal

pub returns-then-node-ne0 : goal.returns-then-node-ne0
returns-then-node-ne0 c =
    let h = c.in_ok-node.ensures in search (taken_node_exits, rules)
