use Rattle.std.proofs.Common.{rules}
use Rattle.client.specs.Laws.Renew.{ranked_none, ranked_here, ranked_next, ranked_absent}
use Rattle.client.proofs.renew.ranked.Goals as goal

pub loop-i-init : goal.loop-i-init
loop-i-init c = search (ranked_none, rules)

pub returns-then-rank-k-clause-value : goal.returns-then-rank-k-clause-value
returns-then-rank-k-clause-value c = search (ranked_here, rules)

pub loop-i-preserved : goal.loop-i-preserved
loop-i-preserved c = search (ranked_next, rules)

pub returns-clause-value : goal.returns-clause-value
returns-clause-value c = search (ranked_absent, rules)
