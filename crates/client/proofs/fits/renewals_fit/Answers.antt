use Rattle.std.proofs.Common.{rules}
use Rattle.client.specs.Laws.Commit.{so_none, so_fails, so_next}
use Rattle.client.proofs.fits.renewals_fit.Goals as goal

pub loop-i-init : goal.loop-i-init
loop-i-init c = search (so_none, rules)

pub returns-then-not-renewal_fits : goal.returns-then-not-renewal_fits
returns-then-not-renewal_fits c = search (so_fails, rules)

pub loop-i-preserved : goal.loop-i-preserved
loop-i-preserved c = search (so_next, rules)
