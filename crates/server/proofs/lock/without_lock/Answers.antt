use Rattle.std.proofs.Common.{rules}
use Rattle.server.proofs.LockExits.{lock_exits}
use Rattle.server.proofs.lock.without_lock.Goals as goal

pub returns-then-word-lt65536 : goal.returns-then-word-lt65536
returns-then-word-lt65536 c = search (lock_exits, rules)

pub returns-then-word-client : goal.returns-then-word-client
returns-then-word-client c = search (lock_exits, rules)

pub returns : goal.returns
returns c = search (lock_exits, rules)
