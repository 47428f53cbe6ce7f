use Rattle.std.proofs.Common.{rules}
use borrow.Author.Tests.{lt-ltb, le-ltb}
use Rattle.nodes.specs.Node.{pair_at}
use Rattle.nodes.proofs.node.Node.pair_at.Goals as goal

pub returns-then-child-self-clause-value : goal.returns-then-child-self-clause-value
unfolding pair_at
returns-then-child-self-clause-value c = search (lt-ltb, le-ltb, rules)

pub returns-else-child-self-clause-value : goal.returns-else-child-self-clause-value
unfolding pair_at
returns-else-child-self-clause-value c = search (lt-ltb, le-ltb, rules)
