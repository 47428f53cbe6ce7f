use Rattle.std.proofs.Common.{rules}
use Rattle.kinds.specs.Laws.Change.{told_exits}
use Rattle.kinds.proofs.change.tell_all.Goals as goal

pub loop-t-init : goal.loop-t-init
loop-t-init c = search (told_exits, rules)

pub loop-t-preserved : goal.loop-t-preserved
loop-t-preserved c = search (told_exits, rules)

pub returns : goal.returns
returns c = search (told_exits, rules)
