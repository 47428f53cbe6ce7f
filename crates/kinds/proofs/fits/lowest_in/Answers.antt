use Rattle.std.proofs.Common.{rules}
use Rattle.kinds.specs.Laws.Fits.{lowest_none, lowest_next, lowest_here, lowest_absent}
use Rattle.kinds.proofs.fits.lowest_in.Goals as goal

pub returns-then-has : goal.returns-then-has
returns-then-has c = search (lowest_here, rules)

pub loop-s-init : goal.loop-s-init
loop-s-init c = lowest_none _

pub loop-s-preserved : goal.loop-s-preserved
loop-s-preserved c = search (lowest_next, rules)

pub returns : goal.returns
returns c = search (lowest_absent, rules)
