use Rattle.std.proofs.Common.{rules}
use Rattle.change.specs.Laws.Lend.{lend_exits}
use Rattle.change.proofs.neighbour.lent.Goals as goal

pub returns-then-last-clause-value : goal.returns-then-last-clause-value
returns-then-last-clause-value c = search (lend_exits, rules)

pub returns-clause-value : goal.returns-clause-value
returns-clause-value c = search (lend_exits, rules)
