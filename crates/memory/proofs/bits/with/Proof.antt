use Rattle.memory.proofs.Laws.Bit.{put_shifted}
use borrow.Author.Rules.{rules}
use Rattle.memory.proofs.bits.with.Statement.{statement}
use Rattle.memory.proofs.bits.with.Tie as tie

returns : tie.Need-returns
returns c = search (put_shifted, rules)

pub with_spec : {M : Type 1} → statement M
with_spec = tie.close (tie.spec (λ c. search rules) returns)
