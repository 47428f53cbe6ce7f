use Rattle.std.proofs.Common.{rules}
use Rattle.client.specs.Laws.Commit.{so_none}
use Rattle.change.specs.Laws.Last.{fit_exits}
use Rattle.change.proofs.last.all_fit.Goals as goal

pub loop-i-init : goal.loop-i-init
loop-i-init c = so_none _ _

pub returns-then-not-fits : goal.returns-then-not-fits
returns-then-not-fits c = search (fit_exits, rules)

pub loop-i-preserved : goal.loop-i-preserved
loop-i-preserved c = search (fit_exits, rules)

pub returns : goal.returns
returns c = search (fit_exits, rules)
