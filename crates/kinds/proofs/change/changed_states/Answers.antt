use Rattle.std.proofs.Common.{rules}
use Rattle.kinds.specs.Laws.Change.{states_exits}
use Rattle.kinds.proofs.change.changed_states.Goals as goal

pub returns-in-Add : goal.returns-in-Add
returns-in-Add c = search (states_exits, rules)

pub returns-in-Close : goal.returns-in-Close
returns-in-Close c = search (states_exits, rules)

pub returns-in-Remove : goal.returns-in-Remove
returns-in-Remove c = search (states_exits, rules)
