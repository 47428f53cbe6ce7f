use Rattle.std.proofs.Common.{rules}
use Rattle.walk.specs.Laws.Ask.{over_is}
use Rattle.walk.proofs.walk.over.Goals as goal

pub returns : goal.returns
returns c = search (over_is, rules)
