use Rattle.std.proofs.Common.{rules}
use Rattle.walk.specs.Laws.Seek.{advance_exits}
use Rattle.walk.proofs.seek.advance.Goals as goal

pub returns-then-ahead-eq0-clause-next : goal.returns-then-ahead-eq0-clause-next
returns-then-ahead-eq0-clause-next c = search (advance_exits, rules)

pub returns-clause-next : goal.returns-clause-next
returns-clause-next c = search (advance_exits, rules)
