use Rattle.std.proofs.Common.{rules}
use Rattle.kinds.specs.Laws.Change.{table_exits}
use Rattle.kinds.proofs.change.put_table.Goals as goal

pub loop-k-init : goal.loop-k-init
loop-k-init c = search (table_exits, rules)

pub loop-k-preserved : goal.loop-k-preserved
loop-k-preserved c = search (table_exits, rules)

pub returns : goal.returns
returns c = search (table_exits, rules)
