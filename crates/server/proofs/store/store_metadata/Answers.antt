use Rattle.std.proofs.Common.{rules}
use Rattle.server.proofs.StoreExits.{store_exits}
use Rattle.server.proofs.store.store_metadata.Goals as goal

pub put-requires : goal.put-requires
put-requires c = search (store_exits, rules)

pub put-requires-2 : goal.put-requires-2
put-requires-2 c = search (store_exits, rules)

pub put-requires-3 : goal.put-requires-3
put-requires-3 c = search (store_exits, rules)

pub returns : goal.returns
returns c = search (store_exits, rules)
