use Rattle.std.proofs.Common.{rules}
use Rattle.kinds.specs.Laws.Change.{table_valid, version_stored}
use Rattle.kinds.proofs.change.put_version.Goals as goal

pub put-requires : goal.put-requires
put-requires c = search (table_valid, version_stored, rules)

pub returns : goal.returns
returns c = search (table_valid, version_stored, rules)
