use Rattle.std.proofs.Common.{◌≡◌, false}
use Rattle.client.specs.Items.{any_below}
use Rattle.memory.specs.Word.{view}
use Rattle.steps.specs.Servers.{other_open}
use Rattle.kinds.specs.Parts.{stored_in}
use Rattle.kinds.proofs.servers.another_open.Given as goal

abbrev pub invariant-loop-t : goal.invariant-loop-t
invariant-loop-t l = any_below l.t (other_open (stored_in l.sizes (view l.mem)) l.server) ≡ false
