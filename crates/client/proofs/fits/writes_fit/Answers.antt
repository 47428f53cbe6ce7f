use Rattle.std.proofs.Common.{rules}
use Rattle.client.specs.Laws.Commit.{so_none, so_fails, so_next, so_all}
use Rattle.client.specs.Laws.Fits.{writes_all}
use Rattle.client.proofs.fits.writes_fit.Goals as goal

pub loop-i-init : goal.loop-i-init
loop-i-init c = search (so_none, rules)

pub returns-then-not-write_fits : goal.returns-then-not-write_fits
returns-then-not-write_fits c = search (writes_all, so_fails, rules)

pub loop-i-preserved : goal.loop-i-preserved
loop-i-preserved c = search (so_next, rules)

pub returns : goal.returns
returns c = search (writes_all, so_all, rules)
