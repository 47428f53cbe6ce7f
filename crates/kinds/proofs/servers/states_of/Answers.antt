use Rattle.std.proofs.Common.{rules}
use Rattle.kinds.specs.Laws.Servers.{states_there}
use Rattle.kinds.proofs.servers.states_of.Goals as goal

pub returns : goal.returns
returns c = search (states_there, rules)
