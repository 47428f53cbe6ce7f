use Rattle.std.proofs.Common.{rules}
use Rattle.server.proofs.StoreExits.{store_exits}
use Rattle.server.proofs.store.store_flag.Goals as goal

pub get-word-requires : goal.get-word-requires
get-word-requires c = search (store_exits, rules)

pub put-requires-2 : goal.put-requires-2
put-requires-2 c = search (store_exits, rules)

pub returns : goal.returns
returns c = search (store_exits, rules)
