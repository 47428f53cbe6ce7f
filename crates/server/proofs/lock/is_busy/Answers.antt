use Rattle.std.proofs.Common.{rules}
use Rattle.server.proofs.LockExits.{lock_exits}
use Rattle.server.proofs.lock.is_busy.Goals as goal

pub returns-then-word-ge65536 : goal.returns-then-word-ge65536
returns-then-word-ge65536 c = search (lock_exits, rules)

pub returns-in-Fetch : goal.returns-in-Fetch
returns-in-Fetch c = search (lock_exits, rules)

pub returns-in-Write : goal.returns-in-Write
returns-in-Write c = search (lock_exits, rules)
