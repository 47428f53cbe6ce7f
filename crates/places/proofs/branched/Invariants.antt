use Rattle.std.proofs.Common.{◌<◌}
use Rattle.memory.specs.Word.{view}
use Rattle.nodes.specs.Stored.{node_at}
use Rattle.nodes.proofs.Laws.Counting.{Counting}
use Rattle.places.proofs.branched.Given as goal

abbrev pub invariant-loop-i : goal.invariant-loop-i
invariant-loop-i l = (l.p < l.i) × Counting (node_at (view l.s) l.b) l.key l.i l.p
