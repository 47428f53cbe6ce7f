use Rattle.std.proofs.Common.{rules}
use Rattle.walk.specs.Laws.Near.{leaf_exits}
use Rattle.walk.proofs.seek.from_leaf.Goals as goal

pub seek-requires-clause-at : goal.seek-requires-clause-at
seek-requires-clause-at c = let h = c.in-Some.ensures in search (leaf_exits, rules)

pub returns-in-Some-clause-seeks_from : goal.returns-in-Some-clause-seeks_from
returns-in-Some-clause-seeks_from c = let h = c.in-Some.ensures in search (leaf_exits, rules)
