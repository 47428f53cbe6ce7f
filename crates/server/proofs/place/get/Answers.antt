use Rattle.std.proofs.Common.{rules}
use Rattle.server.proofs.LayoutExits.{got}
use Rattle.server.proofs.place.get.Goals as goal

pub returns : goal.returns
returns c = search (got, rules)
