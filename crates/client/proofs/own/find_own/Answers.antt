use Rattle.std.proofs.Common.{rules}
use Rattle.client.specs.Laws.Find.{own_none, own_here, own_next, own_absent}
use Rattle.client.proofs.own.find_own.Goals as goal

pub loop-i-init : goal.loop-i-init
loop-i-init c = search (own_none, rules)

pub returns-then-own-i-clause-value : goal.returns-then-own-i-clause-value
returns-then-own-i-clause-value c = search (own_here, rules)

pub loop-i-preserved : goal.loop-i-preserved
loop-i-preserved c = search (own_next, rules)

pub returns-clause-value : goal.returns-clause-value
returns-clause-value c = search (own_absent, rules)
