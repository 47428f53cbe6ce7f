use Rattle.std.proofs.Common.{rules}
use Rattle.server.proofs.HandOutExits.{hand_out_exits}
use Rattle.server.proofs.hand_out.read_vector.Goals as goal

pub read_words-requires : goal.read_words-requires
read_words-requires c = search (hand_out_exits, rules)

pub returns : goal.returns
returns c = search (hand_out_exits, rules)
