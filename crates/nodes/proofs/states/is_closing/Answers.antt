use Rattle.std.proofs.Common.{rules}
use Rattle.nodes.proofs.Laws.States.{closing_bit, closing_absent}
use Rattle.nodes.proofs.states.is_closing.Goals as goal

pub returns-then-is_present : goal.returns-then-is_present
returns-then-is_present c = search (closing_absent, closing_bit, rules)

pub returns-else-is_present : goal.returns-else-is_present
returns-else-is_present c = search (closing_absent, closing_bit, rules)
