use Rattle.kinds.specs.Laws.Change.{TableUpto}
use Rattle.kinds.proofs.change.put_table.Given as goal

abbrev pub invariant-loop-k : goal.invariant-loop-k
invariant-loop-k l = TableUpto l.sizes l.server l.initial.mem l.k-end l.k l.mem
