use Rattle.std.proofs.Common.{rules}
use Rattle.change.specs.Laws.Delete.{deleted, delete_exits}
use Rattle.change.proofs.delete.delete.Goals as goal

pub returns-then-not-at : goal.returns-then-not-at
returns-then-not-at c =
    let h = c.in_ok-way.ensures in
    search (delete_exits, rules)

pub returns : goal.returns
returns c =
    let h = c.in_ok-way.ensures in
    deleted _ _ _ _ _ _ h.over_read _ c.place_at-at.ensures.value (search rules) c.place_at-at.ensures.within _ _ h.within.0 c.read_node-leaf.ensures c.without.ensures
