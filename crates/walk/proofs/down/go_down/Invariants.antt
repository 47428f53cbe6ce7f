use Rattle.client.specs.Sets.{held}
use Rattle.walk.specs.Laws.Down.{Passing}
use Rattle.walk.proofs.down.go_down.Given as goal

abbrev pub invariant-loop-below : goal.invariant-loop-below
invariant-loop-below l = Passing l.part l.slots (held l.part) l.initial.used l.key l.target l.root l.first l.top l.path l.name l.place l.below l.used
