use Rattle.std.proofs.Common.{rules}
use Rattle.kinds.specs.Laws.Judge.{server_held}
use Rattle.kinds.proofs.whole.server_part.Goals as goal

pub returns-clause-holds : goal.returns-clause-holds
returns-clause-holds c = search (server_held, rules)
