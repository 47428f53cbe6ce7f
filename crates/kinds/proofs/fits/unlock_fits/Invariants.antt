use Rattle.client.specs.Laws.Commit.{Sofar}
use Rattle.memory.specs.Word.{view}
use Rattle.kinds.specs.Fits.{unlock_item}
use Rattle.kinds.specs.Laws.Fits.{each_fits}
use Rattle.kinds.proofs.fits.unlock_fits.Given as goal

abbrev pub invariant-loop-i : goal.invariant-loop-i
invariant-loop-i l = Sofar (each_fits l.sizes (view l.mem) l.client (unlock_item l.sizes (view l.mem) l.low l.server)) l.i-end l.i
