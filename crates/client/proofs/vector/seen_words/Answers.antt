use Rattle.std.proofs.Common.{rules}
use Rattle.client.specs.Laws.Vectors.{counting_none, counting_next, counting_all}
use Rattle.client.proofs.vector.seen_words.Goals as goal

pub loop-i-init : goal.loop-i-init
loop-i-init c = search (counting_none, rules)

pub loop-i-preserved : goal.loop-i-preserved
loop-i-preserved c = search (counting_next, rules)

pub returns : goal.returns
returns c = search (counting_all, rules)
