use Rattle.std.proofs.Common.{rules}
use Rattle.kinds.specs.Laws.Servers.{other_same, other_by}
use Rattle.kinds.proofs.servers.is_other_open.Goals as goal

pub returns-then-other-server : goal.returns-then-other-server
returns-then-other-server c = search (other_same, other_by, rules)

pub returns : goal.returns
returns c = search (other_same, other_by, rules)
