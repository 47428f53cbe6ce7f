use Rattle.std.proofs.Common.{rules}
use Rattle.kinds.specs.Laws.Refusal.{field_exits}
use Rattle.kinds.proofs.refusal.migrate_refusal.Goals as goal

pub returns-in_err-server_refusal : goal.returns-in_err-server_refusal
returns-in_err-server_refusal c = search (field_exits, rules)

pub returns : goal.returns
returns c = search (field_exits, rules)
