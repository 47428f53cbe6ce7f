use Rattle.std.proofs.Common.{rules}
use Rattle.change.specs.Laws.Merge.{root_exits}
use Rattle.change.proofs.neighbour.collapses.Goals as goal

pub returns-then-root : goal.returns-then-root
returns-then-root c = search (root_exits, rules)

pub returns-else-root : goal.returns-else-root
returns-else-root c = search (root_exits, rules)
