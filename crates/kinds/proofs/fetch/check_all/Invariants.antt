use Rattle.std.proofs.Common.{◌≡◌}
use Rattle.memory.specs.Word.{view}
use Rattle.kinds.specs.Findings.{as_fault}
use Rattle.kinds.specs.Laws.Fetch.{known_found}
use Rattle.kinds.proofs.fetch.check_all.Given as goal

abbrev pub invariant-loop-i : goal.invariant-loop-i
invariant-loop-i l = as_fault l.best ≡ known_found l.sizes (view l.mem) l.client l.server l.used l.i
