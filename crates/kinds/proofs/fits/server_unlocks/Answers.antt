use Rattle.std.proofs.Common.{rules}
use Rattle.kinds.specs.Laws.Fits.{server_exits}
use Rattle.kinds.proofs.fits.server_unlocks.Goals as goal

pub returns-then-not-has : goal.returns-then-not-has
returns-then-not-has c = search (server_exits, rules)

pub returns-then-not-fit_to_unlock : goal.returns-then-not-fit_to_unlock
returns-then-not-fit_to_unlock c = search (server_exits, rules)

pub returns : goal.returns
returns c = search (server_exits, rules)
