use Rattle.std.proofs.Common.{rules}
use Rattle.change.specs.Laws.Lend.{lend_exits}
use Rattle.change.proofs.neighbour.joined.Goals as goal

pub merge-requires : goal.merge-requires
merge-requires c = search (lend_exits, rules)

pub returns-then-last-clause-value : goal.returns-then-last-clause-value
returns-then-last-clause-value c = search (lend_exits, rules)

pub returns-then-last-clause-size : goal.returns-then-last-clause-size
returns-then-last-clause-size c = search (lend_exits, rules)

pub merge-requires-2 : goal.merge-requires-2
merge-requires-2 c = search (lend_exits, rules)

pub returns-clause-value : goal.returns-clause-value
returns-clause-value c = search (lend_exits, rules)

pub returns-clause-size : goal.returns-clause-size
returns-clause-size c = search (lend_exits, rules)
