use Rattle.memory.specs.Word.{view}
use Rattle.kinds.specs.Laws.Writes.{StoredUpto}
use Rattle.kinds.proofs.writes.store_all.Given as goal

abbrev pub invariant-loop-i : goal.invariant-loop-i
invariant-loop-i l = StoredUpto l.sizes l.client l.server (view l.initial.mem) l.i (view l.mem)
