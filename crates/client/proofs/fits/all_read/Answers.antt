use Rattle.std.proofs.Common.{rules}
use Rattle.client.specs.Laws.Commit.{so_none, so_fails, so_next}
use Rattle.client.proofs.fits.all_read.Goals as goal

pub loop-i-init : goal.loop-i-init
loop-i-init c = search (so_none, rules)

pub returns-then-not-is_read : goal.returns-then-not-is_read
returns-then-not-is_read c = search (so_fails, rules)

pub loop-i-preserved : goal.loop-i-preserved
loop-i-preserved c = search (so_next, rules)
