use Rattle.client.specs.Laws.Commit.{Sofar}
use Rattle.memory.specs.Word.{view}
use Rattle.kinds.specs.Fits.{unlocks_at}
use Rattle.kinds.proofs.fits.servers_unlock.Given as goal

abbrev pub invariant-loop-s : goal.invariant-loop-s
invariant-loop-s l = Sofar (unlocks_at l.sizes (view l.mem) l.client l.prepared) 8 l.s
