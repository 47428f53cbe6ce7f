use Rattle.std.proofs.Common.{rules}
use Rattle.change.specs.Laws.Work.{to_leaf_exits}
use Rattle.change.proofs.work.to_leaf.Goals as goal

pub returns-in-Insert : goal.returns-in-Insert
returns-in-Insert c = search (to_leaf_exits, rules)

pub returns-in-Delete : goal.returns-in-Delete
returns-in-Delete c = search (to_leaf_exits, rules)
