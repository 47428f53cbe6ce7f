use Rattle.std.proofs.Common.{rules}
use Rattle.kinds.specs.Laws.Locks.{changed_none, changed_known, changed_next, changed_all}
use Rattle.kinds.proofs.locks.change_all.Goals as goal

pub loop-i-init : goal.loop-i-init
loop-i-init c = search (changed_none, rules)

pub change_nth-requires : goal.change_nth-requires
change_nth-requires c = search (changed_known, rules)

pub loop-i-preserved : goal.loop-i-preserved
loop-i-preserved c = search (changed_next, rules)

pub returns : goal.returns
returns c = search (changed_all, rules)
