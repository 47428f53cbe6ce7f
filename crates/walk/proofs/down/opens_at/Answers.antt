use Rattle.std.proofs.Common.{rules}
use Rattle.walk.specs.Laws.Entries.{opens_as}
use Rattle.walk.proofs.down.opens_at.Goals as goal

pub returns : goal.returns
returns c = search (opens_as, rules)
