use Rattle.std.proofs.Common.{◌≡◌, false}
use Rattle.client.specs.Items.{any_below}
use Rattle.kinds.specs.Servers.{nonzero}
use Rattle.kinds.proofs.servers.any_nonzero.Given as goal

abbrev pub invariant-loop-i : goal.invariant-loop-i
invariant-loop-i l = any_below l.i (nonzero l.words) ≡ false
