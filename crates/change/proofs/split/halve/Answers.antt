use Rattle.std.proofs.Common.{rules}
use Rattle.change.specs.Laws.Split.{halve_exits}
use Rattle.change.proofs.split.halve.Goals as goal

pub write_halves-requires-clause-halves : goal.write_halves-requires-clause-halves
write_halves-requires-clause-halves c = search (halve_exits, rules)
