use Rattle.std.proofs.Common.{rules}
use Rattle.server.proofs.StoreExits.{store_exits}
use Rattle.server.proofs.store.store_in_table.Goals as goal

pub put-requires : goal.put-requires
put-requires c = search (store_exits, rules)

pub returns-then-inner : goal.returns-then-inner
returns-then-inner c = search (store_exits, rules)

pub returns-else-inner : goal.returns-else-inner
returns-else-inner c = search (store_exits, rules)
