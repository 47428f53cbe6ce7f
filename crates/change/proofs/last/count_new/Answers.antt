use Rattle.std.proofs.Common.{rules}
use Rattle.change.specs.Laws.Last.{counting}
use Rattle.change.proofs.last.count_new.Goals as goal

pub loop-i-init : goal.loop-i-init
loop-i-init c = search (counting, rules)

pub overflow_add-c : goal.overflow_add-c
overflow_add-c c = search (counting, rules)

pub loop-i-preserved : goal.loop-i-preserved
loop-i-preserved c = search (counting, rules)

pub returns-clause-value : goal.returns-clause-value
returns-clause-value c = search (counting, rules)
