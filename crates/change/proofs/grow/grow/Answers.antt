use Rattle.std.proofs.Common.{rules}
use Rattle.change.specs.Laws.Grow.{grow_exits}
use Rattle.change.proofs.grow.grow.Goals as goal

pub write_node-requires : goal.write_node-requires
write_node-requires c = search (grow_exits, rules)

pub returns : goal.returns
returns c = search (grow_exits, rules)
