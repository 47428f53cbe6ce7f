use Rattle.std.proofs.Common.{rules}
use Rattle.server.proofs.CheckExits.{check_exits}
use Rattle.server.proofs.check.can_check.Goals as goal

pub returns-in-Metadata : goal.returns-in-Metadata
returns-in-Metadata c = search (check_exits, rules)

pub returns-then-inner : goal.returns-then-inner
returns-then-inner c = search (check_exits, rules)

pub returns-else-inner : goal.returns-else-inner
returns-else-inner c = search (check_exits, rules)

pub returns-in-Flag : goal.returns-in-Flag
returns-in-Flag c = search (check_exits, rules)
