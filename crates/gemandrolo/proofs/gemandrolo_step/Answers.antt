use Rattle.std.proofs.Common.{rules}
use Rattle.gemandrolo.specs.Laws.Told.{tells}
use Rattle.gemandrolo.specs.Laws.Numbers.{line_numbers}
use Rattle.gemandrolo.proofs.gemandrolo_step.Goals as goal

pub returns-clause-reached : goal.returns-clause-reached
returns-clause-reached c = search (tells, line_numbers, rules)
