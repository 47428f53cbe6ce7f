use Rattle.memory.specs.Word.{view}
use Rattle.nodes.specs.Stored.{node_at}
use Rattle.client.specs.Sets.{held}
use Rattle.walk.specs.Ask.{InPart, Noted}
use Rattle.walk.specs.Laws.Down.{Reaching}
use Rattle.walk.proofs.down.reach.Given as goal

abbrev pub invariant-loop-below : goal.invariant-loop-below
invariant-loop-below l =
    Reaching l.slots (held l.part) l.initial.used l.key (node_at (view l.part) l.first) (node_at (view l.part) l.place) l.below l.used × InPart l.place
    × Noted (held l.part) l.used
