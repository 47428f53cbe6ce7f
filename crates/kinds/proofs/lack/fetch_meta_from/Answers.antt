use Rattle.std.proofs.Common.{rules}
use Rattle.kinds.specs.Laws.Lack.{reaches, fetch_stops, fetch_hands}
use Rattle.kinds.proofs.lack.fetch_meta_from.Goals as goal

pub returns-in-Err : goal.returns-in-Err
returns-in-Err c = let a = c.args in fetch_stops a.sizes _ a.client _ _ _ (search rules) (search (reaches, rules)) _ _ _ c.in-Err.ensures c.stop.ensures

pub returns : goal.returns
returns c = let a = c.args in fetch_hands a.sizes _ a.client _ _ _ (search rules) (search (reaches, rules)) _ _ c.in_default.ensures c.hand_meta.ensures
