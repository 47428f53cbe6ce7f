use Rattle.client.specs.Laws.Commit.{Sofar}
use Rattle.memory.specs.Word.{view}
use Rattle.kinds.specs.Parts.{stored_in}
use Rattle.kinds.specs.Change.{row_fits}
use Rattle.kinds.proofs.change.table_fits.Given as goal

abbrev pub invariant-loop-k : goal.invariant-loop-k
invariant-loop-k l = Sofar (row_fits (stored_in l.sizes (view l.mem)) l.server) l.k-end l.k
