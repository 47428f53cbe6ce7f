use Rattle.std.proofs.Common.{rules}
use Rattle.change.specs.Laws.Last.{new_exits}
use Rattle.change.proofs.last.new_one.Goals as goal

pub returns-then-has-clause-value : goal.returns-then-has-clause-value
returns-then-has-clause-value c = search (new_exits, rules)

pub returns-else-has-clause-value : goal.returns-else-has-clause-value
returns-else-has-clause-value c = search (new_exits, rules)
