use Rattle.memory.specs.Word.{view}
use Rattle.steps.specs.Servers.{there}
use Rattle.kinds.specs.Parts.{stored_in}
use Rattle.kinds.specs.Laws.Servers.{Counting}
use Rattle.kinds.proofs.servers.first_from.Given as goal

abbrev pub invariant-loop-i : goal.invariant-loop-i
invariant-loop-i l = Counting (there (stored_in l.sizes (view l.mem))) l.first l.i
