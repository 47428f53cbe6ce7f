use Rattle.std.proofs.Common.{rules}
use Rattle.client.specs.Laws.Commit.{any_none, any_here, one_calls, any_next}
use Rattle.client.proofs.commit.all_take_part.Goals as goal

pub loop-i-init : goal.loop-i-init
loop-i-init c = search (any_none, rules)

pub returns-then-calls_all : goal.returns-then-calls_all
returns-then-calls_all c = search (any_here, one_calls, rules)

pub loop-i-preserved : goal.loop-i-preserved
loop-i-preserved c = search (any_next, rules)
