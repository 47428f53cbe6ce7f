use Rattle.std.proofs.Common.{rules}
use Rattle.client.specs.Laws.Commit.{so_none, so_next}
use Rattle.change.specs.Laws.Last.{there_exits}
use Rattle.change.proofs.last.all_there.Goals as goal

pub loop-i-init : goal.loop-i-init
loop-i-init c = so_none _ _

pub returns-then-not-there : goal.returns-then-not-there
returns-then-not-there c = search (there_exits, rules)

pub loop-i-preserved : goal.loop-i-preserved
loop-i-preserved c = search (so_next, rules)

pub returns : goal.returns
returns c = search (there_exits, rules)
