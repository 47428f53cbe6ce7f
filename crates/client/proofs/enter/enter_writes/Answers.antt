use Rattle.std.proofs.Common.{rules}
use Rattle.client.specs.Laws.Steps.{swept_none, swept_on}
use Rattle.client.specs.Laws.Enter.{good_writes, writes_entered}
use Rattle.client.proofs.enter.enter_writes.Goals as goal

pub loop-i-init : goal.loop-i-init
loop-i-init c = search (swept_none, rules)

pub loop-i-preserved : goal.loop-i-preserved
loop-i-preserved c = search (swept_on, good_writes, rules)

pub returns : goal.returns
returns c = search (writes_entered, rules)
