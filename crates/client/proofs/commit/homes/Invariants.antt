use Rattle.std.proofs.Common.{◌≡◌}
use Rattle.client.specs.Sets.{held}
use Rattle.client.specs.Participants.{called_homes}
use Rattle.client.proofs.commit.homes.Given as goal

abbrev pub invariant-loop-i : goal.invariant-loop-i
invariant-loop-i l = l.set ≡ called_homes (held l.part) l.i
