use Rattle.std.proofs.Common.{rules}
use Rattle.change.specs.Laws.Move.{beside_exits}
use Rattle.change.proofs.migrate.write_root.Goals as goal

pub returns-in-Some : goal.returns-in-Some
returns-in-Some c = search (beside_exits, rules)
