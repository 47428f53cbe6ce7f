use Rattle.std.proofs.Common.{rules}
use Rattle.change.specs.Laws.Work.{by_operation}
use Rattle.change.proofs.work.walk.Goals as goal

pub migrate-requires-clause-on : goal.migrate-requires-clause-on
migrate-requires-clause-on c = search (by_operation, rules)

pub returns-then-moves : goal.returns-then-moves
returns-then-moves c = search (by_operation, rules)
