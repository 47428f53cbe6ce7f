use Rattle.std.proofs.Common.{rules}
use Rattle.client.specs.Laws.Fits.{too_many, numbers_asked, number_asked}
use Rattle.client.specs.Laws.Commit.{so_none, so_fails, so_next, so_all}
use Rattle.client.proofs.fits.numbers_fit.Goals as goal

pub returns-then-not-count_fits : goal.returns-then-not-count_fits
returns-then-not-count_fits c = search (too_many, rules)

pub loop-i-init : goal.loop-i-init
loop-i-init c = search (so_none, rules)

pub returns-then-not-number_in_store : goal.returns-then-not-number_in_store
returns-then-not-number_in_store c = search (numbers_asked, so_fails, number_asked, rules)

pub loop-i-preserved : goal.loop-i-preserved
loop-i-preserved c = search (so_next, number_asked, rules)

pub returns : goal.returns
returns c = search (numbers_asked, so_all, rules)
