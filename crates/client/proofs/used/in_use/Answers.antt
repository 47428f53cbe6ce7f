use Rattle.std.proofs.Common.{arith}
use Rattle.std.proofs.lemmas.Grind.{common_steps}
use Rattle.client.specs.Lent.{used_in}
use Rattle.client.proofs.used.in_use.Goals as goal

pub returns : goal.returns
unfolding used_in
returns c = grind (arith, common_steps)
