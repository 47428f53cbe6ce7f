use Rattle.std.proofs.Common.{rules}
use Rattle.client.specs.Laws.Renew.{ranking_none, ranking_next}
use Rattle.client.proofs.renew.inner_below.Goals as goal

pub loop-i-init : goal.loop-i-init
loop-i-init c = search (ranking_none, rules)

pub loop-i-preserved : goal.loop-i-preserved
loop-i-preserved c = search (ranking_next, rules)
