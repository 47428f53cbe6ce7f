use Rattle.std.proofs.Common.{rules}
use Rattle.client.specs.Laws.Steps.{swept_none, swept_next}
use Rattle.client.specs.Laws.Copies.{good_empty, place_emptied}
use Rattle.client.proofs.copies.drop_nodes.Goals as goal

pub loop-i-init : goal.loop-i-init
loop-i-init c = search (swept_none, rules)

pub loop-i-preserved : goal.loop-i-preserved
loop-i-preserved c = search (swept_next, good_empty, place_emptied, rules)
