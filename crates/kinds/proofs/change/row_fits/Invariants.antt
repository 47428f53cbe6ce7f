use Rattle.client.specs.Laws.Commit.{Sofar}
use Rattle.memory.specs.Word.{view}
use Rattle.kinds.specs.Parts.{stored_in}
use Rattle.kinds.specs.Change.{version_fits}
use Rattle.kinds.proofs.change.row_fits.Given as goal

abbrev pub invariant-loop-t : goal.invariant-loop-t
invariant-loop-t l = Sofar (version_fits (stored_in l.sizes (view l.mem)) l.server l.slot) 8 l.t
