use Rattle.std.proofs.Common.{rules}
use Rattle.client.specs.Laws.Steps.{swept_none, swept_on}
use Rattle.client.specs.Laws.Copies.{good_vectors}
use Rattle.client.proofs.copies.drop_vectors.Goals as goal

pub loop-s-init : goal.loop-s-init
loop-s-init c = search (swept_none, rules)

pub loop-s-preserved : goal.loop-s-preserved
loop-s-preserved c = search (swept_on, good_vectors, rules)
