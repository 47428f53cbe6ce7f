use Rattle.std.proofs.Common.{rules}
use Rattle.change.specs.Laws.Level.{top_exits}
use Rattle.change.proofs.level.at_top.Goals as goal

pub returns-then-n-eq15 : goal.returns-then-n-eq15
returns-then-n-eq15 c = search (top_exits, rules)

pub settle-requires-clause-name_lt_end_of_names : goal.settle-requires-clause-name_lt_end_of_names
settle-requires-clause-name_lt_end_of_names c = search (top_exits, rules)

pub returns : goal.returns
returns c = search (top_exits, rules)
