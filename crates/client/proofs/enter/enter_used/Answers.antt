use Rattle.std.proofs.Common.{rules}
use Rattle.client.specs.Laws.Steps.{swept_none, swept_on}
use Rattle.client.specs.Laws.Lent.{small_nth}
use Rattle.client.specs.Laws.Enter.{good_nth, nth_entered, numbers_entered}
use Rattle.client.proofs.enter.enter_used.Goals as goal

pub loop-number-init : goal.loop-number-init
loop-number-init c = search (swept_none, rules)

pub loop-number-preserved : goal.loop-number-preserved
loop-number-preserved c = search (swept_on, good_nth, nth_entered, rules)

pub returns : goal.returns
returns c = search (numbers_entered, rules)

pub enter_copy-requires : goal.enter_copy-requires
enter_copy-requires c = search (small_nth, rules)
