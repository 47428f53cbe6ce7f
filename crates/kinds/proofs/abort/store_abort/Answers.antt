use Rattle.std.proofs.Common.{rules}
use Rattle.kinds.specs.Laws.Abort.{abort_exits}
use Rattle.kinds.proofs.abort.store_abort.Goals as goal

pub returns : goal.returns
returns c = search (abort_exits, rules)
