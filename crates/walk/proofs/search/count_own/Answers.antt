use Rattle.std.proofs.Common.{rules}
use Rattle.walk.specs.Laws.Counted.{counting_exits}
use Rattle.walk.proofs.search.count_own.Goals as goal

pub loop-i-preserved : goal.loop-i-preserved
loop-i-preserved c = search (counting_exits, rules)

pub returns : goal.returns
returns c = search (counting_exits, rules)
