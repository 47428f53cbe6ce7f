use Rattle.std.proofs.Common.{rules}
use Rattle.change.specs.Laws.Rise.{node_written}
use Rattle.change.proofs.rise.write_node.Goals as goal

pub returns : goal.returns
returns c = search (node_written, rules)
