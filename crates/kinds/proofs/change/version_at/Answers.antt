use Rattle.std.proofs.Common.{rules}
use Rattle.kinds.specs.Laws.Change.{table_valid}
use Rattle.kinds.proofs.change.version_at.Goals as goal

pub get-requires : goal.get-requires
get-requires c = search (table_valid, rules)
