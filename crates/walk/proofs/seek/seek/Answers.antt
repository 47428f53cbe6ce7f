use Rattle.std.proofs.Common.{rules}
use Rattle.walk.specs.Laws.Seek.{seek_exits}
use Rattle.walk.proofs.seek.seek.Goals as goal

pub loop-next-init : goal.loop-next-init
loop-next-init c = search (seek_exits, rules)

pub loop-next-smaller : goal.loop-next-smaller
loop-next-smaller c = let k = c.in_ok-next.ensures in let h = rw c.in-Some.is at k in search (seek_exits, rules)

pub loop-next-preserved : goal.loop-next-preserved
loop-next-preserved c = let k = c.in_ok-next.ensures in let h = rw c.in-Some.is at k in search (seek_exits, rules)
