use Rattle.std.proofs.Common.{rules}
use Rattle.kinds.specs.Laws.Change.{tell_exits}
use Rattle.kinds.proofs.change.tell.Goals as goal

pub returns-then-is_there : goal.returns-then-is_there
returns-then-is_there c = search (tell_exits, rules)

pub returns-then-t-server : goal.returns-then-t-server
returns-then-t-server c = search (tell_exits, rules)

pub returns-else-t-server : goal.returns-else-t-server
returns-else-t-server c = search (tell_exits, rules)
