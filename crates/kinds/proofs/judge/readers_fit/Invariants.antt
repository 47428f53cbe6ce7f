use Rattle.client.specs.Laws.Commit.{Sofar}
use Rattle.memory.specs.Word.{view}
use Rattle.kinds.specs.Judge.{reader_fits}
use Rattle.kinds.proofs.judge.readers_fit.Given as goal

abbrev pub invariant-loop-d : goal.invariant-loop-d
invariant-loop-d l = Sofar (reader_fits l.sizes (view l.mem) l.word) l.d-end l.d
