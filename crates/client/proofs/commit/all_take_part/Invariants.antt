use Rattle.std.proofs.Common.{◌≡◌, false}
use Rattle.client.specs.Sets.{held}
use Rattle.client.specs.Items.{any_below}
use Rattle.client.specs.Participants.{calls_all}
use Rattle.client.proofs.commit.all_take_part.Given as goal

abbrev pub invariant-loop-i : goal.invariant-loop-i
invariant-loop-i l = any_below l.i (calls_all (held l.part)) ≡ false
