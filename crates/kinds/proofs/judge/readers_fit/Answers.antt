use Rattle.std.proofs.Common.{rules}
use Rattle.client.specs.Laws.Commit.{so_none, so_next, so_all, so_fails}
use Rattle.kinds.proofs.judge.readers_fit.Goals as goal

pub returns-then-not-reader_fits : goal.returns-then-not-reader_fits
returns-then-not-reader_fits c = search (so_fails, rules)

pub loop-d-init : goal.loop-d-init
loop-d-init c = so_none _ _

pub loop-d-preserved : goal.loop-d-preserved
loop-d-preserved c = search (so_next, rules)

pub returns : goal.returns
returns c = search (so_all, rules)
