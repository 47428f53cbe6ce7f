use Rattle.std.proofs.Common.{rules}
use Rattle.kinds.specs.Laws.Servers.{taken_by}
use Rattle.kinds.proofs.servers.any_taken.Goals as goal

pub returns : goal.returns
returns c = search (taken_by, rules)
