use Rattle.std.proofs.Common.{rules}
use Rattle.walk.specs.Laws.Found.{under_exits}
use Rattle.walk.proofs.found.under_at.Goals as goal

pub returns-then-key-eq0-clause-value : goal.returns-then-key-eq0-clause-value
returns-then-key-eq0-clause-value c = search (under_exits, rules)

pub returns-clause-value : goal.returns-clause-value
returns-clause-value c = search (under_exits, rules)
