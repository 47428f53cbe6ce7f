use Rattle.std.proofs.Common.{rules}
use Rattle.server.proofs.CheckExits.{check_exits}
use Rattle.server.proofs.check.stands.Goals as goal

pub get-requires : goal.get-requires
get-requires c = search (check_exits, rules)

pub returns : goal.returns
returns c = search (check_exits, rules)
