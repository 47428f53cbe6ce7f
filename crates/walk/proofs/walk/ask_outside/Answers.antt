use Rattle.std.proofs.Common.{rules}
use Rattle.walk.specs.Laws.Ask.{outside_exits}
use Rattle.walk.proofs.walk.ask_outside.Goals as goal

pub pop_used-requires : goal.pop_used-requires
pop_used-requires c = search (outside_exits, rules)

pub returns-then-over : goal.returns-then-over
returns-then-over c = search (outside_exits, rules)

pub returns : goal.returns
returns c = search (outside_exits, rules)
