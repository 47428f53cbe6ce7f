use Rattle.std.proofs.Common.{arith}
use Rattle.kinds.specs.Laws.Lack.{no_source}
use Rattle.kinds.proofs.lack.fetch_meta.Goals as goal

pub returns-in-None : goal.returns-in-None
returns-in-None c = let a = c.args in no_source a.sizes _ a.client 8 _ c.in-None.ensures.value (omega arith)
