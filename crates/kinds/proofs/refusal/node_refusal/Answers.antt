use Rattle.std.proofs.Common.{rules}
use Rattle.kinds.specs.Laws.Refusal.{field_exits}
use Rattle.kinds.proofs.refusal.node_refusal.Goals as goal

pub returns-then-in_store : goal.returns-then-in_store
returns-then-in_store c = search (field_exits, rules)

pub returns : goal.returns
returns c = search (field_exits, rules)
