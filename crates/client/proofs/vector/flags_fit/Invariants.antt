use Rattle.client.specs.Vectors.{flag_fits}
use Rattle.client.specs.Sets.{held}
use Rattle.client.specs.Laws.Commit.{Sofar}
use Rattle.client.proofs.vector.flags_fit.Given as goal

abbrev pub invariant-loop-i : goal.invariant-loop-i
invariant-loop-i l = Sofar (flag_fits (held l.part) l.s) l.i-end l.i
