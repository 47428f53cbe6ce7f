use Rattle.std.proofs.Common.{rules}
use Rattle.change.specs.Laws.Parent.{at_exits}
use Rattle.change.proofs.migrate.move_at.Goals as goal

pub returns-then-slot_at-name : goal.returns-then-slot_at-name
returns-then-slot_at-name c = search (at_exits, rules)

pub returns : goal.returns
returns c = search (at_exits, rules)
