use Rattle.memory.proofs.Laws.Bit.{above_shifted, minus_shifted}
use borrow.Author.Rules.{rules}
use Rattle.memory.proofs.bits.without.Statement.{statement}
use Rattle.memory.proofs.bits.without.Tie as tie

sub_result : tie.Need-overflow_sub-result
sub_result c = search (above_shifted, rules)

returns : tie.Need-returns
returns c = search (minus_shifted, rules)

pub without_spec : {M : Type 1} → statement M
without_spec = tie.close (tie.spec (λ c κs. search rules) (λ c. search rules) sub_result returns)
