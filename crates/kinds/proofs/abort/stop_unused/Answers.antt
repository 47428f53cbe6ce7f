use Rattle.std.proofs.Common.{rules}
use Rattle.kinds.specs.Laws.Abort.{stop_unused}
use Rattle.kinds.proofs.abort.stop_unused.Goals as goal

pub returns : goal.returns
returns c = search (stop_unused, rules)
