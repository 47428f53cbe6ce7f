use Rattle.memory.proofs.Laws.Bit.{bit_shifted}
use borrow.Author.Rules.{rules}
use Rattle.memory.proofs.bits.has.Statement.{statement}
use Rattle.memory.proofs.bits.has.Tie as tie

returns : tie.Need-returns
returns c = search (bit_shifted, rules)

pub has_spec : {M : Type 1} → statement M
has_spec = tie.close (tie.spec (λ c. search rules) returns)
