use Rattle.std.proofs.Common.{rules}
use Rattle.walk.specs.Laws.Lookup.{answer_ends}
use Rattle.walk.specs.Laws.Ask.{over_some, over_long}
use Rattle.walk.proofs.lookup.answers.Goals as goal

pub pop_used-requires : goal.pop_used-requires
pop_used-requires c = search (over_some, over_long, rules)

pub returns-then-over : goal.returns-then-over
returns-then-over c = search (answer_ends, rules)

pub returns : goal.returns
returns c = search (answer_ends, rules)
