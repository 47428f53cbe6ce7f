use Rattle.std.proofs.Common.{rules}
use Rattle.engine.specs.Laws.Open.{servers_exits}
use Rattle.engine.proofs.open.make_servers.Goals as goal

pub loop-s-init : goal.loop-s-init
loop-s-init c = search (servers_exits, rules)

pub loop-s-preserved : goal.loop-s-preserved
loop-s-preserved c = search (servers_exits, rules)

pub returns : goal.returns
returns c = search (servers_exits, rules)
