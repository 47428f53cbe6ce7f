use Rattle.std.proofs.Common.{rules}
use Rattle.kinds.specs.Laws.Locks.{nth_known, nth_turn}
use Rattle.kinds.proofs.locks.change_nth.Goals as goal

pub change_item-requires : goal.change_item-requires
change_item-requires c = search (nth_known, rules)

pub returns : goal.returns
returns c = search (nth_turn, rules)
