use Rattle.client.specs.Sets.{held}
use Rattle.walk.specs.Down.{turns_in, PathInPart}
use Rattle.walk.specs.Found.{pairs_in, Roomy, to_right}
use Rattle.walk.specs.Seek.{weight}
use Rattle.walk.specs.Laws.Seek.{Seeking}
use Rattle.walk.proofs.seek.seek.Given as goal

abbrev pub invariant-loop-next : goal.invariant-loop-next
invariant-loop-next l =
    let a = l.initial.ahead in
    Seeking l.slots (held l.part) l.initial.used l.w l.top (turns_in l.part a.path) a.level a.name (pairs_in l.initial.found)
    (turns_in l.part l.ahead.path) l.ahead.level l.ahead.name l.used (pairs_in l.found) × PathInPart l.ahead.path × Roomy l.w.wanted l.found

abbrev pub decreases-loop-next : goal.decreases-loop-next
decreases-loop-next l = weight (to_right l.w.sought) l.top (turns_in l.part l.ahead.path) l.ahead.level
