use Rattle.kinds.specs.Laws.Prepare.{checked_goes, checked_stops}
use Rattle.kinds.proofs.prepare.checked_prepare.Goals as goal

pub returns-in-Err : goal.returns-in-Err
returns-in-Err c = let a = c.args in checked_stops a.sizes a.client a.server _ _ _ _ c.in-Err.ensures c.stop_unused.ensures

pub returns : goal.returns
returns c = let a = c.args in checked_goes a.sizes a.client a.server _ _ _ c.in_default.ensures c.prepare_at.ensures
