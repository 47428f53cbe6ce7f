use Rattle.engine.specs.Laws.Open.{ServersUpto}
use Rattle.engine.proofs.open.make_servers.Given as goal

abbrev pub invariant-loop-s : goal.invariant-loop-s
invariant-loop-s l = ServersUpto l.sizes l.initial.mem l.s l.mem
