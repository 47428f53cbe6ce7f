use Rattle.std.proofs.Common.{◌≡◌}
use Rattle.memory.specs.Word.{view}
use Rattle.kinds.specs.Findings.{as_fault}
use Rattle.kinds.specs.Laws.Findings.{found_upto}
use Rattle.kinds.proofs.findings.check_prepare.Given as goal

abbrev pub invariant-loop-i : goal.invariant-loop-i
invariant-loop-i l = as_fault l.best ≡ found_upto l.sizes (view l.mem) l.client l.server l.low l.i
