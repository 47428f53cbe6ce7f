use Rattle.std.proofs.Common.{rules}
use Rattle.kinds.specs.Laws.Parts.{client_few, client_sum, client_room}
use Rattle.kinds.proofs.whole.client_at.Goals as goal

pub returns-clause-value : goal.returns-clause-value
returns-clause-value c = search (client_sum, rules)

pub returns-clause-within : goal.returns-clause-within
returns-clause-within c = search (client_sum, client_few, client_room, rules)
