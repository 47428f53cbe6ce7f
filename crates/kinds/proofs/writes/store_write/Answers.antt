use Rattle.std.proofs.Common.{rules}
use Rattle.kinds.specs.Laws.Writes.{write_exits}
use Rattle.steps.proofs.Laws.Writes.{node_has}
use Rattle.kinds.proofs.writes.store_write.Goals as goal

pub store_metadata-requires : goal.store_metadata-requires
store_metadata-requires c = search (write_exits, node_has, rules)

pub returns-then-number-eq0 : goal.returns-then-number-eq0
returns-then-number-eq0 c = search (write_exits, rules)

pub store_node-requires : goal.store_node-requires
store_node-requires c = search (write_exits, node_has, rules)

pub returns-then-stores_some : goal.returns-then-stores_some
returns-then-stores_some c = search (write_exits, rules)

pub returns-else-stores_some : goal.returns-else-stores_some
returns-else-stores_some c = search (write_exits, node_has, rules)

pub returns-then-is_home : goal.returns-then-is_home
returns-then-is_home c = search (write_exits, rules)

pub returns-else-is_home : goal.returns-else-is_home
returns-else-is_home c = search (write_exits, node_has, rules)
