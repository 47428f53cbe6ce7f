use Rattle.std.proofs.Common.{rules}
use Rattle.kinds.specs.Laws.Servers.{by_lowest}
use Rattle.kinds.proofs.servers.lowest_there.Goals as goal

pub returns-clause-value : goal.returns-clause-value
returns-clause-value c = search (by_lowest, rules)
