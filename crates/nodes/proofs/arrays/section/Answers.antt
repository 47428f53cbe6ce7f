use Rattle.std.proofs.Common.{rules}
use Rattle.nodes.proofs.Laws.Lists.{part_is}
use Rattle.nodes.proofs.arrays.section.Goals as goal

pub returns : goal.returns
returns c = search (part_is, rules)
