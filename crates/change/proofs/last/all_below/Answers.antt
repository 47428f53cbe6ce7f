use Rattle.std.proofs.Common.{rules}
use Rattle.client.specs.Laws.Commit.{so_none, so_next}
use Rattle.change.specs.Laws.Last.{staying}
use Rattle.change.proofs.last.all_below.Goals as goal

pub loop-i-init : goal.loop-i-init
loop-i-init c = so_none _ _

pub returns-then-not-stays_below : goal.returns-then-not-stays_below
returns-then-not-stays_below c = search (staying, rules)

pub loop-i-preserved : goal.loop-i-preserved
loop-i-preserved c = search (so_next, rules)

pub returns : goal.returns
returns c = search (staying, rules)
