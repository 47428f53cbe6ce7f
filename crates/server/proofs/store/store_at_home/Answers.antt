use Rattle.std.proofs.Common.{rules}
use Rattle.server.proofs.StoreExits.{store_exits}
use Rattle.server.proofs.store.store_at_home.Goals as goal

pub index-requires : goal.index-requires
index-requires c = search (store_exits, rules)

pub write_node-requires : goal.write_node-requires
write_node-requires c = search (store_exits, rules)

pub returns-then-server : goal.returns-then-server
returns-then-server c = search (store_exits, rules)

pub returns-else-server : goal.returns-else-server
returns-else-server c = search (store_exits, rules)
