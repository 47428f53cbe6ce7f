use Rattle.std.proofs.Common.{rules}
use Rattle.kinds.specs.Laws.Refusal.{field_exits}
use Rattle.kinds.proofs.refusal.give_refusal.Goals as goal

pub returns-in-0 : goal.returns-in-0
returns-in-0 c = search (field_exits, rules)

pub returns-in-6 : goal.returns-in-6
returns-in-6 c = search (field_exits, rules)

pub returns-in-7 : goal.returns-in-7
returns-in-7 c = search (field_exits, rules)

pub returns-in-1-to-5 : goal.returns-in-1-to-5
returns-in-1-to-5 c = search (field_exits, rules)

pub returns-in-8-to-18446744073709551615 : goal.returns-in-8-to-18446744073709551615
returns-in-8-to-18446744073709551615 c = search (field_exits, rules)
