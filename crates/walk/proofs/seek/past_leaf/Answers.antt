use Rattle.std.proofs.Common.{rules}
use Rattle.walk.specs.Laws.Seek.{past_exits}
use Rattle.walk.proofs.seek.past_leaf.Goals as goal

pub returns-then-found-w-clause-past : goal.returns-then-found-w-clause-past
returns-then-found-w-clause-past c = search (past_exits, rules)

pub returns-clause-past : goal.returns-clause-past
returns-clause-past c = search (past_exits, rules)
