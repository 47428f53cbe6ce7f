use Rattle.std.proofs.Common.{arith}
use Rattle.std.proofs.lemmas.Grind.{common_steps}
use Rattle.client.specs.Renew.{with_inner}
use Rattle.client.proofs.renew.with_inner.Goals as goal

pub returns-then-number_at-number-clause-value : goal.returns-then-number_at-number-clause-value
unfolding with_inner
returns-then-number_at-number-clause-value c = grind (arith, common_steps)

pub returns-else-inner_at-clause-value : goal.returns-else-inner_at-clause-value
unfolding with_inner
returns-else-inner_at-clause-value c = grind (arith, common_steps)
