use Rattle.std.proofs.Common.{rules}
use Rattle.walk.specs.Laws.Lookup.{look_in_exits}
use Rattle.walk.proofs.lookup.look_in.Goals as goal

pub returns-then-p : goal.returns-then-p
returns-then-p c = search (look_in_exits, rules)

pub returns : goal.returns
returns c = search (look_in_exits, rules)
