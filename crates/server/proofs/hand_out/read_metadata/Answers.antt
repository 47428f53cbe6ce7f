use Rattle.std.proofs.Common.{rules}
use Rattle.server.proofs.HandOutExits.{hand_out_exits}
use Rattle.server.proofs.hand_out.read_metadata.Goals as goal

pub get-requires : goal.get-requires
get-requires c = search (hand_out_exits, rules)

pub get-requires-2 : goal.get-requires-2
get-requires-2 c = search (hand_out_exits, rules)

pub get-requires-3 : goal.get-requires-3
get-requires-3 c = search (hand_out_exits, rules)

pub returns : goal.returns
returns c = search (hand_out_exits, rules)
