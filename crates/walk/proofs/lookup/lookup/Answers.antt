use Rattle.std.proofs.Common.{rules}
use Rattle.walk.specs.Laws.Lookup.{look_exits}
use Rattle.walk.proofs.lookup.lookup.Goals as goal

pub returns : goal.returns
returns c =
    let h = c.in_ok-leaf.ensures in search (look_exits, rules)
