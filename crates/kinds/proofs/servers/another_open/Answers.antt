use Rattle.std.proofs.Common.{rules}
use Rattle.client.specs.Laws.Commit.{any_none, any_next, any_here, any_absent}
use Rattle.kinds.specs.Laws.Servers.{another_by}
use Rattle.kinds.proofs.servers.another_open.Goals as goal

pub returns-then-is_other_open : goal.returns-then-is_other_open
returns-then-is_other_open c = search (any_here, another_by, rules)

pub loop-t-init : goal.loop-t-init
loop-t-init c = any_none _

pub loop-t-preserved : goal.loop-t-preserved
loop-t-preserved c = search (any_next, rules)

pub returns : goal.returns
returns c = search (any_absent, another_by, rules)
