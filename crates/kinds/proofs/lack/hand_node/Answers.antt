use Rattle.std.proofs.Common.{rules}
use Rattle.std.proofs.Common.{refl}
use Rattle.kinds.specs.Laws.Lack.{node_has, node_stops, node_unsound, node_handed}
use Rattle.kinds.proofs.lack.hand_node.Goals as goal

pub gate-requires : goal.gate-requires
gate-requires c = (search rules, search (node_has, rules))

pub returns-in-Err : goal.returns-in-Err
returns-in-Err c = let a = c.args in node_stops a.sizes _ a.client _ a.server a.name _ _ refl _ _ _ c.in-Err.ensures c.stop.ensures

pub returns-then-not-node_fits : goal.returns-then-not-node_fits
returns-then-not-node_fits c = let a = c.args in node_unsound a.sizes _ a.client _ a.server a.name _ _ refl c.in_default.ensures _ c.node_of-n.ensures _ c.node_fits.ensures (search rules)

pub returns : goal.returns
returns c = let a = c.args in node_handed a.sizes _ a.client _ a.server a.name _ _ refl c.in_default.ensures _ c.node_of-n.ensures _ c.node_fits.ensures _ (search rules) c.store_node.ensures
