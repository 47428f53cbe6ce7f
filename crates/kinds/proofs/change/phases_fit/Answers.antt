use Rattle.std.proofs.Common.{rules}
use Rattle.client.specs.Laws.Commit.{so_none, so_next, so_all, so_fails}
use Rattle.kinds.proofs.change.phases_fit.Goals as goal

pub returns-then-not-phase_fits : goal.returns-then-not-phase_fits
returns-then-not-phase_fits c = search (so_fails, rules)

pub loop-c-init : goal.loop-c-init
loop-c-init c = so_none _ _

pub loop-c-preserved : goal.loop-c-preserved
loop-c-preserved c = search (so_next, rules)

pub returns : goal.returns
returns c = search (so_all, rules)
