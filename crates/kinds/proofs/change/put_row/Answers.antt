use Rattle.std.proofs.Common.{rules}
use Rattle.kinds.specs.Laws.Change.{row_exits}
use Rattle.kinds.proofs.change.put_row.Goals as goal

pub loop-t-init : goal.loop-t-init
loop-t-init c = search (row_exits, rules)

pub loop-t-preserved : goal.loop-t-preserved
loop-t-preserved c = search (row_exits, rules)

pub returns : goal.returns
returns c = search (row_exits, rules)
