use Rattle.std.proofs.Common.{rules}
use Rattle.client.specs.Laws.Steps.{swept_none, swept_on}
use Rattle.client.specs.Laws.Renew.{good_outer, all_writes}
use Rattle.client.proofs.renew.drop_outers.Goals as goal

pub loop-i-init : goal.loop-i-init
loop-i-init c = search (swept_none, rules)

pub loop-i-preserved : goal.loop-i-preserved
loop-i-preserved c = search (swept_on, good_outer, rules)

pub returns : goal.returns
returns c = search (all_writes, rules)
