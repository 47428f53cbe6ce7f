use Rattle.std.proofs.Common.{rules}
use Rattle.kinds.specs.Laws.Lack.{meta_has, meta_stops, meta_unsound, meta_handed}
use Rattle.kinds.proofs.lack.hand_meta.Goals as goal

pub gate-requires : goal.gate-requires
gate-requires c = (search rules, search (meta_has, rules))

pub returns-in-Err : goal.returns-in-Err
returns-in-Err c = let a = c.args in meta_stops a.sizes _ a.client _ a.server _ _ _ _ c.in-Err.ensures c.stop.ensures

pub returns-then-not-meta_fits : goal.returns-then-not-meta_fits
returns-then-not-meta_fits c = let a = c.args in meta_unsound a.sizes _ a.client _ a.server _ c.in_default.ensures _ c.meta_fits.ensures (search rules)

pub returns : goal.returns
returns c = let a = c.args in meta_handed a.sizes _ a.client _ a.server _ c.in_default.ensures _ c.meta_fits.ensures _ _ (search rules) c.meta_of-m.ensures c.store_meta.ensures
