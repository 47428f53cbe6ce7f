use Rattle.std.proofs.Common.{rules}
use Rattle.schedule.proofs.Laws.Listed.{noted_there, left_out}
use Rattle.schedule.proofs.run.note.Goals as goal

pub returns-then-i-outcomes : goal.returns-then-i-outcomes
returns-then-i-outcomes c = search (noted_there, rules)

pub returns-else-i-outcomes : goal.returns-else-i-outcomes
returns-else-i-outcomes c = search (left_out, rules)
