use Rattle.std.proofs.Common.{rules}
use Rattle.server.proofs.LockExits.{lock_exits}
use Rattle.server.proofs.lock.is_lock.Goals as goal

pub returns-then-word-ge65536 : goal.returns-then-word-ge65536
returns-then-word-ge65536 c = search (lock_exits, rules)

pub returns : goal.returns
returns c = search (lock_exits, rules)
