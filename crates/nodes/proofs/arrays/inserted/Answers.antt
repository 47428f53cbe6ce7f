use Rattle.std.proofs.Common.{rules}
use Rattle.nodes.proofs.Laws.Lists.{inserted_is}
use Rattle.nodes.proofs.arrays.inserted.Goals as goal

pub returns : goal.returns
returns c = search (inserted_is, rules)
