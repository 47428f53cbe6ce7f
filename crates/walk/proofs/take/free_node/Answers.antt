use Rattle.std.proofs.Common.{rules}
use Rattle.walk.specs.Laws.Take.{freed_exits}
use Rattle.walk.proofs.take.free_node.Goals as goal

pub returns : goal.returns
returns c = search (freed_exits, rules)
