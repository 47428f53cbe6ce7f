use Rattle.std.proofs.Common.{rules}
use Rattle.nodes.proofs.Laws.Counting.{counting_ends}
use Rattle.nodes.proofs.Laws.Standing.{keys_sized}
use Rattle.places.specs.Laws.Branched.{counts_key, passes_key}
use Rattle.places.proofs.branched.Goals.{then-key_at-key, else-key_at-key}
use Rattle.places.proofs.branched.Goals as goal

pub loop-i-preserved : goal.loop-i-preserved
loop-i-preserved c = elim c.if-key_at-key.branch [
  | then-key_at-key w ↦ search (counts_key, keys_sized, rules)
  | else-key_at-key w ↦ search (passes_key, keys_sized, rules)
]

pub returns-clause-value : goal.returns-clause-value
returns-clause-value c = search (counting_ends, keys_sized, rules)
