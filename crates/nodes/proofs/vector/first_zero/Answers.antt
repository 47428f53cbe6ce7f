use Rattle.std.proofs.Common.{rules}
use Rattle.nodes.proofs.Laws.Search.{zero_found}
use Rattle.nodes.proofs.vector.first_zero.Goals as goal

pub returns : goal.returns
returns c = search (zero_found, rules)
