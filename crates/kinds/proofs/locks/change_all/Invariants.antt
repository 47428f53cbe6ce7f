use Rattle.memory.specs.Word.{view}
use Rattle.kinds.specs.Laws.Locks.{Changed}
use Rattle.kinds.proofs.locks.change_all.Given as goal

abbrev pub invariant-loop-i : goal.invariant-loop-i
invariant-loop-i l = Changed l.sizes l.client l.server l.change l.low (view l.initial.mem) l.i (view l.mem)
