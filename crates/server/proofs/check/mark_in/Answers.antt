use Rattle.std.proofs.Common.{rules}
use Rattle.server.proofs.CheckExits.{check_exits}
use Rattle.server.proofs.check.mark_in.Goals as goal

pub returns-in-Metadata : goal.returns-in-Metadata
returns-in-Metadata c = search (check_exits, rules)

pub returns-in-Flag : goal.returns-in-Flag
returns-in-Flag c = search (check_exits, rules)
