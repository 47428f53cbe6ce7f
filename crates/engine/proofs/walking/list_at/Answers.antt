use Rattle.std.proofs.Common.{rules}
use Rattle.engine.specs.Laws.Work.{walk_lent}
use Rattle.engine.proofs.walking.list_at.Goals as goal

pub list-requires-clause-waits : goal.list-requires-clause-waits
list-requires-clause-waits c = search (walk_lent, rules)

pub returns-clause-over_client : goal.returns-clause-over_client
returns-clause-over_client c = search (walk_lent, rules)

pub returns-clause-within : goal.returns-clause-within
returns-clause-within c = search (walk_lent, rules)
