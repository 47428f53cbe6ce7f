use Rattle.std.proofs.Common.{rules}
use Rattle.server.proofs.LayoutExits.{was_put}
use Rattle.server.proofs.place.put.Goals as goal

pub returns : goal.returns
returns c = search (was_put, rules)
