use Rattle.std.proofs.Common.{rules}
use Rattle.walk.specs.Laws.Vector.{passed_exits}
use Rattle.walk.proofs.search.passed.Goals as goal

pub returns-then-not-is_fetched : goal.returns-then-not-is_fetched
returns-then-not-is_fetched c = search (passed_exits, rules)

pub returns : goal.returns
returns c = search (passed_exits, rules)
