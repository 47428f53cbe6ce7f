use Rattle.std.proofs.Common.{rules}
use Rattle.walk.specs.Laws.Down.{kid_exits}
use Rattle.walk.proofs.down.child.Goals as goal

pub returns-in_err-place-clause-unwritten : goal.returns-in_err-place-clause-unwritten
returns-in_err-place-clause-unwritten c = search (kid_exits, rules)

pub returns-then-not-below_at-clause-unwritten : goal.returns-then-not-below_at-clause-unwritten
returns-then-not-below_at-clause-unwritten c = let h = c.in_ok-place.ensures in search (kid_exits, rules)

pub returns-clause-unwritten : goal.returns-clause-unwritten
returns-clause-unwritten c = let h = c.in_ok-place.ensures in search (kid_exits, rules)
