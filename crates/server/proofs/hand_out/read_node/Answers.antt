use Rattle.std.proofs.Common.{rules}
use Rattle.server.proofs.HandOutExits.{hand_out_exits}
use Rattle.server.proofs.hand_out.read_node.Goals as goal

pub index-requires : goal.index-requires
index-requires c = search (hand_out_exits, rules)

pub read_node-requires : goal.read_node-requires
read_node-requires c = search (hand_out_exits, rules)

pub returns : goal.returns
returns c = search (hand_out_exits, rules)
