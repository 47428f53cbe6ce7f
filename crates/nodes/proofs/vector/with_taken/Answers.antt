use Rattle.std.proofs.Common.{rules}
use Rattle.nodes.proofs.Laws.Bits.{flag_written}
use Rattle.nodes.proofs.vector.with_taken.Goals as goal

pub returns : goal.returns
returns c = search (flag_written, rules)
