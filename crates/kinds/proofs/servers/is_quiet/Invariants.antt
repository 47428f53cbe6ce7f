use Rattle.client.specs.Laws.Commit.{Sofar}
use Rattle.memory.specs.Word.{view}
use Rattle.kinds.specs.Laws.Servers.{ended_at}
use Rattle.kinds.proofs.servers.is_quiet.Given as goal

abbrev pub invariant-loop-c : goal.invariant-loop-c
invariant-loop-c l = Sofar (ended_at l.sizes (view l.mem)) l.c-end l.c
