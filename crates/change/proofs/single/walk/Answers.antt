use Rattle.std.proofs.Common.{rules}
use Rattle.change.specs.Laws.Single.{single_operation}
use Rattle.change.proofs.single.walk.Goals as goal

pub write_leaf-requires-clause-named : goal.write_leaf-requires-clause-named
write_leaf-requires-clause-named c =
    let h = c.in_ok-change.ensures in
    search (single_operation, rules)
