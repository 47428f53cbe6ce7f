use Rattle.std.proofs.Common.{rules}
use Rattle.kinds.specs.Laws.Parts.{server_row, server_few, server_sum, server_room}
use Rattle.kinds.proofs.whole.server_at.Goals as goal

pub returns-clause-value : goal.returns-clause-value
returns-clause-value c = search (server_sum, rules)

pub returns-clause-within : goal.returns-clause-within
returns-clause-within c = search (server_sum, server_few, server_room, rules)
