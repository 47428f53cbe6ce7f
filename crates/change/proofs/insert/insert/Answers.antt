use Rattle.std.proofs.Common.{rules}
use Rattle.change.specs.Laws.Insert.{insert_exits}
use Rattle.change.proofs.insert.insert.Goals as goal

pub returns : goal.returns
returns c =
    let h = c.in_ok-way.ensures in
    search (insert_exits, rules)
