use Rattle.std.proofs.Common.{rules}
use Rattle.kinds.specs.Laws.Abort.{freed_here, freed_not}
use Rattle.kinds.proofs.abort.unlock_at.Goals as goal

pub returns-then-has : goal.returns-then-has
returns-then-has c = search (freed_here, rules)

pub returns-else-has : goal.returns-else-has
returns-else-has c = search (freed_here, freed_not, rules)
