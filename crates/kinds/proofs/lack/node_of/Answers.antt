use Rattle.std.proofs.Common.{rules}
use Rattle.kinds.specs.Laws.Servers.{node_there}
use Rattle.kinds.proofs.lack.node_of.Goals as goal

pub returns : goal.returns
returns c = search (node_there, rules)
