use Rattle.std.proofs.Common.{rules}
use Rattle.kinds.specs.Laws.Writes.{stored_none, stored_writable, stored_next, stored_all}
use Rattle.kinds.proofs.writes.store_all.Goals as goal

pub loop-i-init : goal.loop-i-init
loop-i-init c = search (stored_none, rules)

pub store_nth-requires : goal.store_nth-requires
store_nth-requires c = search (stored_writable, rules)

pub loop-i-preserved : goal.loop-i-preserved
loop-i-preserved c = search (stored_next, rules)

pub returns : goal.returns
returns c = search (stored_all, rules)
