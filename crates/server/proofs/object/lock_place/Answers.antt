use Rattle.std.proofs.Common.{rules}
use Rattle.server.proofs.ObjectExits.{object_exits}
use Rattle.server.proofs.object.lock_place.Goals as goal

pub returns-in-Metadata : goal.returns-in-Metadata
returns-in-Metadata c = search (object_exits, rules)

pub returns-in-Node : goal.returns-in-Node
returns-in-Node c = search (object_exits, rules)

pub returns-in-Flag : goal.returns-in-Flag
returns-in-Flag c = search (object_exits, rules)
