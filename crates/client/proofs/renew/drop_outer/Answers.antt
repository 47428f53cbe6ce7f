use Rattle.std.proofs.Common.{rules}
use Rattle.client.specs.Laws.Renew.{outer_inner, outer_dropped, outer_other}
use Rattle.client.proofs.renew.drop_outer.Goals as goal

pub returns-then-not-inner_at : goal.returns-then-not-inner_at
returns-then-not-inner_at c =
    let b = c.in-Node.ensures.bounds in
    outer_dropped _ _ _ c.number_at-number.ensures b.0 _ b.1 c.inner_at.ensures _ (search rules) c.drop_node.ensures

pub returns-else-not-inner_at : goal.returns-else-not-inner_at
returns-else-not-inner_at c =
    let b = c.in-Node.ensures.bounds in
    outer_inner _ _ _ c.number_at-number.ensures b.0 _ b.1 c.inner_at.ensures (search rules)

pub returns-in_default : goal.returns-in_default
returns-in_default c = outer_other _ _ _ c.number_at-number.ensures _ c.from.ensures.bounds c.in_default.not-Node
