use Rattle.std.proofs.Common.{rules}
use Rattle.nodes.proofs.Laws.Built.{keys_fit, keys_joined}
use Rattle.nodes.proofs.node.Node.joined_keys.Goals as goal

pub returns : goal.returns
returns c = search (keys_fit, keys_joined, rules)
