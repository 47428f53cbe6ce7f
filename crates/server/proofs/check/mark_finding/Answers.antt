use Rattle.std.proofs.Common.{rules}
use Rattle.server.proofs.CheckExits.{check_exits}
use Rattle.server.proofs.check.mark_finding.Goals as goal

pub returns-then-not-mark_fits-2 : goal.returns-then-not-mark_fits-2
returns-then-not-mark_fits-2 c = search (check_exits, rules)

pub returns-then-here-read : goal.returns-then-here-read
returns-then-here-read c = search (check_exits, rules)

pub returns-else-here-read : goal.returns-else-here-read
returns-else-here-read c = search (check_exits, rules)
