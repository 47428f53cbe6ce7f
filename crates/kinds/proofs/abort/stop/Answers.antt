use Rattle.std.proofs.Common.{rules}
use Rattle.kinds.specs.Laws.Abort.{stop_exits}
use Rattle.kinds.proofs.abort.stop.Goals as goal

pub returns-in-Damaged : goal.returns-in-Damaged
returns-in-Damaged c = search (stop_exits, rules)

pub returns-in-Differs : goal.returns-in-Differs
returns-in-Differs c = search (stop_exits, rules)

pub returns-in-Busy : goal.returns-in-Busy
returns-in-Busy c = search (stop_exits, rules)

pub returns-in-TooMany : goal.returns-in-TooMany
returns-in-TooMany c = search (stop_exits, rules)
