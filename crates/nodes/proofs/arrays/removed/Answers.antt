use Rattle.std.proofs.Common.{rules}
use Rattle.nodes.proofs.Laws.Lists.{removed_is}
use Rattle.nodes.proofs.arrays.removed.Goals as goal

pub returns : goal.returns
returns c = search (removed_is, rules)
