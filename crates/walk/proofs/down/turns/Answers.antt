use Rattle.std.proofs.Common.{rules}
use Rattle.walk.specs.Laws.Down.{taken_exits}
use Rattle.walk.proofs.down.turns.Goals as goal

pub returns : goal.returns
returns c = search (taken_exits, rules)

pub loop-i-preserved : goal.loop-i-preserved
loop-i-preserved c = search (taken_exits, rules)
