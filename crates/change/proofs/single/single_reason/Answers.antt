use Rattle.std.proofs.Common.{rules}
use Rattle.change.specs.Laws.Single.{nothing_judged}
use Rattle.change.proofs.single.single_reason.Goals as goal

pub returns-in-None : goal.returns-in-None
returns-in-None c = search (nothing_judged, rules)
