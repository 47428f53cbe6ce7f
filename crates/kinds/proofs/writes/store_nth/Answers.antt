use Rattle.std.proofs.Common.{rules}
use Rattle.kinds.specs.Laws.Writes.{stored_exits}
use Rattle.kinds.proofs.writes.store_nth.Goals as goal

pub store_at-requires : goal.store_at-requires
store_at-requires c = search (stored_exits, rules)

pub returns : goal.returns
returns c = search (stored_exits, rules)
