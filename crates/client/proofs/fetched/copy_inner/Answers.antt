use Rattle.std.proofs.Common.{rules}
use Rattle.client.specs.Laws.Copies.{inner_copied, inner_not}
use Rattle.client.proofs.fetched.copy_inner.Goals as goal

pub returns-then-n-eq2 : goal.returns-then-n-eq2
returns-then-n-eq2 c = search (inner_copied, rules)

pub returns-else-n-eq2 : goal.returns-else-n-eq2
returns-else-n-eq2 c = search (inner_not, rules)
