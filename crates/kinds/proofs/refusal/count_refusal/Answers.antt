use Rattle.std.proofs.Common.{rules}
use Rattle.kinds.specs.Laws.Refusal.{field_exits}
use Rattle.kinds.proofs.refusal.count_refusal.Goals as goal

pub returns-then-between : goal.returns-then-between
returns-then-between c = search (field_exits, rules)

pub returns : goal.returns
returns c = search (field_exits, rules)
