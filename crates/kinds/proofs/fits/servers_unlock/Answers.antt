use Rattle.std.proofs.Common.{rules}
use Rattle.client.specs.Laws.Commit.{so_none, so_next, so_all, so_fails}
use Rattle.kinds.specs.Laws.Fits.{unlocked_all}
use Rattle.kinds.proofs.fits.servers_unlock.Goals as goal

pub returns-then-not-server_unlocks : goal.returns-then-not-server_unlocks
returns-then-not-server_unlocks c = search (so_fails, unlocked_all, rules)

pub loop-s-init : goal.loop-s-init
loop-s-init c = so_none _ _

pub loop-s-preserved : goal.loop-s-preserved
loop-s-preserved c = search (so_next, rules)

pub returns : goal.returns
returns c = search (so_all, unlocked_all, rules)
