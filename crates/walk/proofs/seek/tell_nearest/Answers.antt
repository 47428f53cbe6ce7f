use Rattle.std.proofs.Common.{rules}
use Rattle.walk.specs.Laws.Seek.{nearest_exits}
use Rattle.walk.proofs.seek.tell_nearest.Goals as goal

pub returns-then-found-eq0 : goal.returns-then-found-eq0
returns-then-found-eq0 c = search (nearest_exits, rules)

pub returns : goal.returns
returns c = search (nearest_exits, rules)
