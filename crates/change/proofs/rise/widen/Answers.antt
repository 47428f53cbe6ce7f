use Rattle.std.proofs.Common.{rules}
use Rattle.change.specs.Laws.Rise.{widened_is}
use Rattle.change.proofs.rise.widen.Goals as goal

pub returns-clause-value : goal.returns-clause-value
returns-clause-value c = search (widened_is, rules)
