use Rattle.nodes.proofs.Laws.Search.{Looked}
use Rattle.nodes.proofs.vector.free_from.Given as goal

abbrev pub invariant-loop-w : goal.invariant-loop-w
invariant-loop-w l = Looked l.words l.from l.w l.p
