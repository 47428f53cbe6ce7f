use Rattle.std.proofs.Common.{rules}
use Rattle.kinds.specs.Laws.Change.{largest_starts, largest_next, largest_ends}
use Rattle.kinds.proofs.change.largest_version.Goals as goal

pub loop-u-init : goal.loop-u-init
loop-u-init c = search (largest_starts, rules)

pub loop-u-preserved : goal.loop-u-preserved
loop-u-preserved c = search (largest_next, rules)

pub returns : goal.returns
returns c = search (largest_ends, rules)
