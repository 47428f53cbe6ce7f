use Rattle.std.proofs.Common.{rules}
use Rattle.kinds.specs.Laws.Change.{nobody_changed, change_exits, change_unfit, change_done}
use Rattle.kinds.proofs.change.change_servers.Goals as goal

pub returns-in_default : goal.returns-in_default
returns-in_default c = let a = c.args in nobody_changed a.sizes a.change a.server _ c.in_default.ensures.value

pub returns-then-not-change_fits : goal.returns-then-not-change_fits
returns-then-not-change_fits c = let a = c.args in change_unfit a.sizes _ a.change a.server _ c.change_fits.ensures (search rules)

pub store_change-requires : goal.store_change-requires
store_change-requires c = search (change_exits, rules)

pub returns : goal.returns
returns c = let a = c.args in
    change_done a.sizes _ a.change a.server _ c.change_fits.ensures _ c.in-Some.ensures.value (search rules) _ _ _ c.meta_of-old.ensures c.changed_states.ensures c.store_change.ensures
