use Rattle.std.proofs.Common.{rules}
use Rattle.client.specs.Laws.Copies.{object_meta, object_node, object_flag, object_none}
use Rattle.client.proofs.copies.drop_object.Goals as goal

pub returns-in-Metadata : goal.returns-in-Metadata
returns-in-Metadata c = search (object_meta, rules)

pub returns-in-Node : goal.returns-in-Node
returns-in-Node c = search (object_node, rules)

pub returns-then-s-lt-SERVERS : goal.returns-then-s-lt-SERVERS
returns-then-s-lt-SERVERS c = search (object_flag, rules)

pub returns-else-s-lt-SERVERS : goal.returns-else-s-lt-SERVERS
returns-else-s-lt-SERVERS c =
    let b = c.in-Flag.ensures.bounds in
    object_none _ _ b.0 b.1 _ (rw (← b.2) c.server-s.ensures) c.if-s-lt-SERVERS.false
