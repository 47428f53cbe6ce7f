use Rattle.std.proofs.Common.{arith}
use Rattle.std.proofs.lemmas.Grind.{common_steps}
use Rattle.client.specs.Renew.{versioned}
use Rattle.client.proofs.renew.versioned.Goals as goal

pub returns : goal.returns
unfolding versioned
returns c = grind (arith, common_steps)
