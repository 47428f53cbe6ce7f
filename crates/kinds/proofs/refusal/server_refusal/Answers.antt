use Rattle.std.proofs.Common.{rules}
use Rattle.kinds.specs.Laws.Refusal.{field_exits}
use Rattle.kinds.proofs.refusal.server_refusal.Goals as goal

pub returns-then-server-ge-SERVERS : goal.returns-then-server-ge-SERVERS
returns-then-server-ge-SERVERS c = search (field_exits, rules)

pub returns : goal.returns
returns c = search (field_exits, rules)
