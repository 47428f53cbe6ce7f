use Rattle.std.proofs.Common.{rules}
use Rattle.change.specs.Laws.Merge.{between}
use Rattle.change.proofs.neighbour.beside.Goals as goal

pub returns : goal.returns
returns c = search (between, rules)
