use Rattle.std.proofs.Common.{rules}
use Rattle.kinds.specs.Laws.Prepare.{is_prepared}
use Rattle.kinds.proofs.prepare.lock_server.Goals as goal

pub returns : goal.returns
returns c = search (is_prepared, rules)
