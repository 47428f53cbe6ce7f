use Rattle.std.proofs.Common.{rules}
use Rattle.client.specs.Laws.Commit.{so_none, so_fails, so_next, so_all}
use Rattle.client.specs.Laws.Vectors.{flags_all}
use Rattle.client.proofs.vector.flags_fit.Goals as goal

pub loop-i-init : goal.loop-i-init
loop-i-init c = search (so_none, rules)

pub returns-then-not-flag_fits : goal.returns-then-not-flag_fits
returns-then-not-flag_fits c = search (flags_all, so_fails, rules)

pub loop-i-preserved : goal.loop-i-preserved
loop-i-preserved c = search (so_next, rules)

pub returns : goal.returns
returns c = search (flags_all, so_all, rules)
