use Rattle.std.proofs.Common.{rules}
use Rattle.walk.specs.Laws.Seek.{climb_exits}
use Rattle.walk.proofs.seek.climb.Goals as goal

pub loop-l-init : goal.loop-l-init
loop-l-init c = search (climb_exits, rules)

pub onward-at-requires : goal.onward-at-requires
onward-at-requires c = search (climb_exits, rules)

pub slot_at-requires : goal.slot_at-requires
slot_at-requires c = search (climb_exits, rules)

pub returns-then-more-clause-climbed : goal.returns-then-more-clause-climbed
returns-then-more-clause-climbed c = search (climb_exits, rules)

pub loop-l-preserved : goal.loop-l-preserved
loop-l-preserved c = search (climb_exits, rules)

pub returns-clause-climbed : goal.returns-clause-climbed
returns-clause-climbed c = search (climb_exits, rules)
