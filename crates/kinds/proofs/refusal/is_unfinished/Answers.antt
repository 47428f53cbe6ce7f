use Rattle.std.proofs.Common.{rules}
use Rattle.kinds.specs.Laws.Refusal.{no_participant, by_done}
use Rattle.kinds.proofs.refusal.is_unfinished.Goals as goal

pub returns-then-has : goal.returns-then-has
returns-then-has c = search (by_done, no_participant, rules)

pub returns : goal.returns
returns c = search (by_done, no_participant, rules)
