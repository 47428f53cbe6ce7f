use Rattle.std.proofs.Common.{rules}
use borrow.Author.Tests.{eq-eqb, ne_eqb}
use Rattle.nodes.specs.Node.{extra}
use Rattle.nodes.proofs.node.slots_beyond.Goals as goal

pub returns-then-kind-eq2-clause-value : goal.returns-then-kind-eq2-clause-value
unfolding extra
returns-then-kind-eq2-clause-value c = search (eq-eqb, ne_eqb, rules)

pub returns-else-kind-eq2-clause-value : goal.returns-else-kind-eq2-clause-value
unfolding extra
returns-else-kind-eq2-clause-value c = search (eq-eqb, ne_eqb, rules)
