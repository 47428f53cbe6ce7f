use Rattle.std.proofs.Common.{rules}
use Rattle.walk.specs.Laws.Entries.{below_as}
use Rattle.walk.proofs.down.below_at.Goals as goal

pub returns : goal.returns
returns c = search (below_as, rules)
