use Rattle.std.proofs.Common.{rules}
use Rattle.change.specs.Laws.Rise.{both_exits}
use Rattle.change.proofs.rise.write_halves.Goals as goal

pub returns : goal.returns
returns c = search (both_exits, rules)
