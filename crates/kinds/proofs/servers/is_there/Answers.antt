use Rattle.std.proofs.Common.{rules}
use Rattle.kinds.specs.Laws.Servers.{by_present}
use Rattle.kinds.proofs.servers.is_there.Goals as goal

pub returns : goal.returns
returns c = search (by_present, rules)
