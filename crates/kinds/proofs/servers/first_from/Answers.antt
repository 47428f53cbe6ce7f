use Rattle.std.proofs.Common.{rules}
use Rattle.kinds.specs.Laws.Servers.{counting}
use Rattle.kinds.proofs.servers.first_from.Goals as goal

pub returns-then-is_there : goal.returns-then-is_there
returns-then-is_there c = search (counting, rules)

pub loop-i-init : goal.loop-i-init
loop-i-init c = search (counting, rules)

pub loop-i-preserved : goal.loop-i-preserved
loop-i-preserved c = search (counting, rules)

pub returns : goal.returns
returns c = search (counting, rules)
