use Rattle.std.proofs.Common.{rules}
use Rattle.walk.specs.Laws.Look.{list_exits}
use Rattle.walk.specs.Laws.Begin.{nothing_noted}
use Rattle.walk.proofs.look.list.Goals as goal

pub by_path-requires : goal.by_path-requires
by_path-requires c = search (list_exits, nothing_noted, rules)

pub returns-clause-looks : goal.returns-clause-looks
returns-clause-looks c = search (list_exits, rules)
