use Rattle.std.proofs.Common.{rules}
use Rattle.client.specs.Laws.Commit.{so_none, so_next, so_all, so_fails}
use Rattle.kinds.specs.Laws.Change.{row_by}
use Rattle.kinds.proofs.change.row_fits.Goals as goal

pub returns-then-not-version_fits : goal.returns-then-not-version_fits
returns-then-not-version_fits c = search (so_fails, row_by, rules)

pub loop-t-init : goal.loop-t-init
loop-t-init c = so_none _ _

pub loop-t-preserved : goal.loop-t-preserved
loop-t-preserved c = search (so_next, rules)

pub returns : goal.returns
returns c = search (so_all, row_by, rules)
