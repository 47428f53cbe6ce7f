use Rattle.std.proofs.Common.{rules}
use Rattle.kinds.specs.Laws.Change.{added_by, none_added}
use Rattle.kinds.proofs.change.added_fits.Goals as goal

pub returns-then-is_add : goal.returns-then-is_add
returns-then-is_add c = search (added_by, none_added, rules)

pub returns : goal.returns
returns c = search (added_by, none_added, rules)
