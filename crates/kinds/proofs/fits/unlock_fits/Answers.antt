use Rattle.std.proofs.Common.{rules}
use Rattle.client.specs.Laws.Commit.{so_none, so_next, so_all, so_fails}
use Rattle.kinds.specs.Laws.Fits.{known_item, item_asked, unlock_all}
use Rattle.kinds.proofs.fits.unlock_fits.Goals as goal

pub item_unlocks-requires : goal.item_unlocks-requires
item_unlocks-requires c = search (known_item, rules)

pub returns-then-not-item_unlocks : goal.returns-then-not-item_unlocks
returns-then-not-item_unlocks c = search (unlock_all, so_fails, item_asked, rules)

pub loop-i-init : goal.loop-i-init
loop-i-init c = so_none _ _

pub loop-i-preserved : goal.loop-i-preserved
loop-i-preserved c = search (so_next, item_asked, rules)

pub returns : goal.returns
returns c = search (unlock_all, so_all, rules)
