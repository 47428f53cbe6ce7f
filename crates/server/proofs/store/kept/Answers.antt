use Rattle.std.proofs.Common.{rules}
use Rattle.server.proofs.StoreExits.{store_exits}
use Rattle.server.proofs.store.kept.Goals as goal

pub returns-then-node-eq0 : goal.returns-then-node-eq0
returns-then-node-eq0 c = search (store_exits, rules)

pub returns : goal.returns
returns c = search (store_exits, rules)
