use Rattle.std.proofs.Common.{rules}
use Rattle.server.proofs.StoreExits.{store_exits}
use Rattle.server.proofs.store.lock.Goals as goal

pub returns : goal.returns
returns c = search (store_exits, rules)
