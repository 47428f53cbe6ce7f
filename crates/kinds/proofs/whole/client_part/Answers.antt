use Rattle.std.proofs.Common.{rules}
use Rattle.kinds.specs.Laws.Judge.{client_held}
use Rattle.kinds.proofs.whole.client_part.Goals as goal

pub returns-clause-holds : goal.returns-clause-holds
returns-clause-holds c = search (client_held, rules)
