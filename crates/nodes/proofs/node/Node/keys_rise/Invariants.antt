use Rattle.std.proofs.Common.{take}
use Rattle.nodes.proofs.Laws.Place.{Risen}
use Rattle.nodes.proofs.node.Node.keys_rise.Given as goal

abbrev pub invariant-loop-i : goal.invariant-loop-i
invariant-loop-i l = Risen (take l.self.count l.self.keys) l.i
