use Rattle.std.proofs.Common.{rules}
use Rattle.nodes.proofs.Laws.Built.{put_built}
use Rattle.nodes.proofs.node.Node.put_in.Goals as goal

pub returns-clause-value : goal.returns-clause-value
returns-clause-value c = search (put_built, rules)
