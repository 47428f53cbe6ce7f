use Rattle.memory.specs.Word.{view}
use Rattle.kinds.specs.Parts.{stored_in}
use Rattle.kinds.specs.Laws.Change.{SoFar}
use Rattle.kinds.proofs.change.largest_version.Given as goal

abbrev pub invariant-loop-u : goal.invariant-loop-u
invariant-loop-u l = SoFar (stored_in l.sizes (view l.mem)) l.server l.of l.slot l.u l.best
