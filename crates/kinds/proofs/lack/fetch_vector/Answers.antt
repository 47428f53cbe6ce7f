use Rattle.std.proofs.Common.{rules}
use Rattle.std.proofs.Common.{refl}
use Rattle.kinds.specs.Laws.Lack.{reaches, fetch_stops, vector_handed}
use Rattle.kinds.proofs.lack.fetch_vector.Goals as goal

pub returns-in-Err : goal.returns-in-Err
returns-in-Err c = let a = c.args in fetch_stops a.sizes _ a.client _ _ _ refl (search (reaches, rules)) _ _ _ c.in-Err.ensures c.stop.ensures

pub returns : goal.returns
returns c = let a = c.args in vector_handed a.sizes _ a.client _ a.server (search (reaches, rules)) _ _ c.in_default.ensures c.vector_of-words.ensures c.store_vector.ensures
