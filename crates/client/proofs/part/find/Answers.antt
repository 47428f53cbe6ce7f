use Rattle.std.proofs.Common.{rules}
use Rattle.client.specs.Laws.Find.{find_none, find_here, find_next, find_absent}
use Rattle.client.proofs.part.find.Goals as goal

pub loop-i-init : goal.loop-i-init
loop-i-init c = search (find_none, rules)

pub returns-then-number_at-number-clause-value : goal.returns-then-number_at-number-clause-value
returns-then-number_at-number-clause-value c = search (find_here, rules)

pub loop-i-preserved : goal.loop-i-preserved
loop-i-preserved c = search (find_next, rules)

pub returns-clause-value : goal.returns-clause-value
returns-clause-value c = search (find_absent, rules)
