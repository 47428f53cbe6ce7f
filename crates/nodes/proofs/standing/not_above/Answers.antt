use Rattle.std.proofs.Common.{rules}
use Rattle.nodes.proofs.Laws.Counting.{counting_starts, counting_goes_on, counting_ends, counted_within}
use Rattle.nodes.proofs.Laws.Standing.{keys_sized}
use Rattle.nodes.proofs.standing.not_above.Goals as goal

pub loop-i-preserved : goal.loop-i-preserved
loop-i-preserved c = search (counting_goes_on, keys_sized, counting_starts, counting_ends, counted_within, rules)

pub returns-clause-value : goal.returns-clause-value
returns-clause-value c = search (counting_goes_on, keys_sized, counting_starts, counting_ends, counted_within, rules)
