use Rattle.std.proofs.Common.{arith}
use Rattle.std.proofs.lemmas.Grind.{common_steps}
use Rattle.client.specs.Renew.{rank}
use Rattle.client.proofs.renew.rank.Goals as goal

pub returns-then-not-inner_at : goal.returns-then-not-inner_at
unfolding rank
returns-then-not-inner_at c = grind (arith, common_steps)

pub returns : goal.returns
unfolding rank
returns c = grind (arith, common_steps)
