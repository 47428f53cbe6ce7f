use Rattle.std.proofs.Common.{rules}
use Rattle.kinds.specs.Laws.Fits.{fit_exits}
use Rattle.kinds.proofs.fits.item_unlocks.Goals as goal

pub returns-then-not-item : goal.returns-then-not-item
returns-then-not-item c = search (fit_exits, rules)

pub returns-then-not-item-2 : goal.returns-then-not-item-2
returns-then-not-item-2 c = search (fit_exits, rules)

pub returns-then-is_locked_at : goal.returns-then-is_locked_at
returns-then-is_locked_at c = search (fit_exits, rules)

pub returns : goal.returns
returns c = search (fit_exits, rules)
