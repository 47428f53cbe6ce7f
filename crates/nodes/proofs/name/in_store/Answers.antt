use Rattle.std.proofs.Common.{rules}
use Rattle.nodes.proofs.Laws.Name.{no_server, by_slot}
use Rattle.nodes.proofs.name.in_store.Goals as goal

pub returns-then-server-lt-SERVERS : goal.returns-then-server-lt-SERVERS
returns-then-server-lt-SERVERS c = search (by_slot, rules)

pub returns-else-server-lt-SERVERS : goal.returns-else-server-lt-SERVERS
returns-else-server-lt-SERVERS c = search (no_server, by_slot, rules)
