use Rattle.std.proofs.Common.{rules}
use Rattle.kinds.specs.Laws.Lack.{reaches, checking_as, fetch_stops, fetch_hands}
use Rattle.kinds.proofs.lack.fetch_node.Goals as goal

pub check_from-requires : goal.check_from-requires
check_from-requires c = search (checking_as, rules)

pub returns-in-Err : goal.returns-in-Err
returns-in-Err c = let a = c.args in fetch_stops a.sizes _ a.client _ _ _ c.server-server.ensures (search (reaches, rules)) _ _ _ c.in-Err.ensures c.stop.ensures

pub hand_node-requires : goal.hand_node-requires
hand_node-requires c = search (checking_as, rules)

pub returns : goal.returns
returns c = let a = c.args in fetch_hands a.sizes _ a.client _ _ _ c.server-server.ensures (search (reaches, rules)) _ _ c.in_default.ensures c.hand_node.ensures
