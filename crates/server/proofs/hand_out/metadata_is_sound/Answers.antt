use Rattle.std.proofs.Common.{rules}
use Rattle.server.proofs.HandOutExits.{hand_out_exits}
use Rattle.server.proofs.hand_out.metadata_is_sound.Goals as goal

pub returns : goal.returns
returns c = search (hand_out_exits, rules)
