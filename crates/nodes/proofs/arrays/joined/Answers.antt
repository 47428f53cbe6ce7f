use Rattle.std.proofs.Common.{rules}
use Rattle.nodes.proofs.Laws.Lists.{joined_is}
use Rattle.nodes.proofs.arrays.joined.Goals as goal

pub returns-clause-value : goal.returns-clause-value
returns-clause-value c = search (joined_is, rules)
