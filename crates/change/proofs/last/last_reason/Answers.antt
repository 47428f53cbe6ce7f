use Rattle.std.proofs.Common.{rules}
use Rattle.change.specs.Laws.Last.{one_exits}
use Rattle.change.proofs.last.last_reason.Goals as goal

pub returns : goal.returns
returns c = search (one_exits, rules)
