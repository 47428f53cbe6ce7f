use Rattle.std.proofs.Common.{rules}
use Rattle.kinds.specs.Laws.Servers.{suits_exits}
use Rattle.kinds.proofs.servers.state_suits.Goals as goal

pub returns-in-Add : goal.returns-in-Add
returns-in-Add c = search (suits_exits, rules)

pub returns-then-is_open : goal.returns-then-is_open
returns-then-is_open c = search (suits_exits, rules)

pub returns-else-is_open : goal.returns-else-is_open
returns-else-is_open c = search (suits_exits, rules)

pub returns-in-Remove : goal.returns-in-Remove
returns-in-Remove c = search (suits_exits, rules)
