use Rattle.std.proofs.Common.{rules}
use Rattle.walk.specs.Laws.Found.{one_taken}
use Rattle.walk.proofs.found.take_one.Goals as goal

pub returns : goal.returns
returns c = search (one_taken, rules)
