use Rattle.std.proofs.Common.{rules}
use Rattle.kinds.specs.Laws.Servers.{none_ends, ends_by}
use Rattle.kinds.proofs.servers.version_ends.Goals as goal

pub returns-in-Some : goal.returns-in-Some
returns-in-Some c = search (ends_by, rules)

pub returns-in-None : goal.returns-in-None
returns-in-None c = search (none_ends, rules)
