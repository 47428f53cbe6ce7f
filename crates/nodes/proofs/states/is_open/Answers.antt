use Rattle.std.proofs.Common.{rules}
use Rattle.nodes.proofs.Laws.States.{open_bit, open_absent}
use Rattle.nodes.proofs.states.is_open.Goals as goal

pub returns-then-is_present : goal.returns-then-is_present
returns-then-is_present c = search (open_absent, open_bit, rules)

pub returns-else-is_present : goal.returns-else-is_present
returns-else-is_present c = search (open_absent, open_bit, rules)
