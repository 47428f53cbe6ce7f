use Rattle.std.proofs.Common.{rules}
use Rattle.walk.specs.Laws.Ask.{placed_exits}
use Rattle.walk.proofs.walk.place_node.Goals as goal

pub returns : goal.returns
returns c = search (placed_exits, rules)
