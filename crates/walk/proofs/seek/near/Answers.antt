use Rattle.std.proofs.Common.{rules}
use Rattle.walk.specs.Laws.Near.{near_exits}
use Rattle.walk.proofs.seek.near.Goals as goal

pub returns-then-found-w : goal.returns-then-found-w
returns-then-found-w c =
    let h = c.in_ok-leaf.ensures in search (near_exits, rules)

pub returns : goal.returns
returns c =
    let h = c.in_ok-leaf.ensures in search (near_exits, rules)
