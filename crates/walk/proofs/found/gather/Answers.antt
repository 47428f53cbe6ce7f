use Rattle.std.proofs.Common.{rules}
use Rattle.walk.specs.Laws.Found.{gather_exits}
use Rattle.walk.proofs.found.gather.Goals as goal

pub loop-j-init : goal.loop-j-init
loop-j-init c = search (gather_exits, rules)

pub returns-then-found-w-clause-found_value : goal.returns-then-found-w-clause-found_value
returns-then-found-w-clause-found_value c = search (gather_exits, rules)

pub loop-j-preserved : goal.loop-j-preserved
loop-j-preserved c = search (gather_exits, rules)

pub returns-clause-found_value : goal.returns-clause-found_value
returns-clause-found_value c = search (gather_exits, rules)
