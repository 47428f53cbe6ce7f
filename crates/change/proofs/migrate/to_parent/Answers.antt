use Rattle.std.proofs.Common.{rules}
use Rattle.change.specs.Laws.Parent.{parent_exits}
use Rattle.change.proofs.migrate.to_parent.Goals as goal

pub returns-then-level_at-level-clause-over_read : goal.returns-then-level_at-level-clause-over_read
returns-then-level_at-level-clause-over_read c =
    let h = c.in_ok-first.ensures in
    search (parent_exits, rules)

pub returns-clause-over_read : goal.returns-clause-over_read
returns-clause-over_read c =
    let h = c.in_ok-first.ensures in
    search (parent_exits, rules)
