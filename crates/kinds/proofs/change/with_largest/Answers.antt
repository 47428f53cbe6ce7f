use Rattle.std.proofs.Common.{rules}
use Rattle.kinds.specs.Laws.Change.{largest_there, largest_absent}
use Rattle.kinds.proofs.change.with_largest.Goals as goal

pub returns-then-is_there : goal.returns-then-is_there
returns-then-is_there c = search (largest_there, largest_absent, rules)

pub returns : goal.returns
returns c = search (largest_there, largest_absent, rules)
