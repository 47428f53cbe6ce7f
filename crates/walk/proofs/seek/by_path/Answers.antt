use Rattle.std.proofs.Common.{rules}
use Rattle.walk.specs.Laws.Near.{path_exits}
use Rattle.walk.proofs.seek.by_path.Goals as goal

pub returns-clause-searches : goal.returns-clause-searches
returns-clause-searches c =
    let h = c.in_ok-d.ensures in search (path_exits, rules)
