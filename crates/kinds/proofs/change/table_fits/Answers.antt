use Rattle.std.proofs.Common.{rules}
use Rattle.client.specs.Laws.Commit.{so_none, so_next, so_all, so_fails}
use Rattle.kinds.proofs.change.table_fits.Goals as goal

pub returns-then-not-row_fits : goal.returns-then-not-row_fits
returns-then-not-row_fits c = search (so_fails, rules)

pub loop-k-init : goal.loop-k-init
loop-k-init c = so_none _ _

pub loop-k-preserved : goal.loop-k-preserved
loop-k-preserved c = search (so_next, rules)

pub returns : goal.returns
returns c = search (so_all, rules)
