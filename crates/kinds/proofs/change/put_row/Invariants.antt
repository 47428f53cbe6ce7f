use Rattle.kinds.specs.Laws.Change.{RowUpto}
use Rattle.kinds.proofs.change.put_row.Given as goal

abbrev pub invariant-loop-t : goal.invariant-loop-t
invariant-loop-t l = RowUpto l.sizes l.server l.slot l.initial.mem l.t l.mem
