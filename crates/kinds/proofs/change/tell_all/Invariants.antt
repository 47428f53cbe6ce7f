use Rattle.kinds.specs.Laws.Change.{ToldUpto}
use Rattle.kinds.proofs.change.tell_all.Given as goal

abbrev pub invariant-loop-t : goal.invariant-loop-t
invariant-loop-t l = ToldUpto l.sizes l.server l.m l.initial.mem l.t l.mem
