use Rattle.std.proofs.Common.{rules}
use Rattle.walk.specs.Laws.Seek.{tell_exits}
use Rattle.walk.proofs.seek.tell.Goals as goal

pub returns-in-AtLeast : goal.returns-in-AtLeast
returns-in-AtLeast c = search (tell_exits, rules)
