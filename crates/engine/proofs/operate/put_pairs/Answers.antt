use Rattle.std.proofs.Common.{rules}
use Rattle.engine.specs.Laws.Output.{pairs_put}
use Rattle.engine.proofs.operate.put_pairs.Goals as goal

pub returns : goal.returns
returns c = search (pairs_put, rules)
