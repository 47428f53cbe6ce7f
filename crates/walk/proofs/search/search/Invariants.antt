use Rattle.client.specs.Sets.{held}
use Rattle.walk.specs.Laws.Search.{Seeking}
use Rattle.walk.proofs.search.search.Given as goal

abbrev pub invariant-loop-i : goal.invariant-loop-i
invariant-loop-i l = Seeking l.slots (held l.part) l.own l.initial.used l.states l.home l.n l.slot l.i l.used
