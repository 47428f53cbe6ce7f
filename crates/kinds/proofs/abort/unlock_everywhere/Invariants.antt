use Rattle.memory.specs.Word.{view}
use Rattle.kinds.specs.Laws.Abort.{FreedUpto}
use Rattle.kinds.proofs.abort.unlock_everywhere.Given as goal

abbrev pub invariant-loop-s : goal.invariant-loop-s
invariant-loop-s l = FreedUpto l.sizes l.client l.prepared l.s (view l.initial.mem) (view l.mem)
