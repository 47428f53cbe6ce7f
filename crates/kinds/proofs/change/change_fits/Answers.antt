use Rattle.std.proofs.Common.{rules}
use Rattle.kinds.specs.Laws.Change.{fit_exits}
use Rattle.kinds.proofs.change.change_fits.Goals as goal

pub returns-then-not-phases_fit : goal.returns-then-not-phases_fit
returns-then-not-phases_fit c = search (fit_exits, rules)

pub returns-then-not-meta_fits : goal.returns-then-not-meta_fits
returns-then-not-meta_fits c = search (fit_exits, rules)

pub returns : goal.returns
returns c = search (fit_exits, rules)
