use Rattle.std.proofs.Common.{rules}
use Rattle.walk.specs.Laws.Ask.{copy_exits}
use Rattle.walk.proofs.walk.note_copy.Goals as goal

pub returns-then-is_used : goal.returns-then-is_used
returns-then-is_used c = search (copy_exits, rules)

pub returns : goal.returns
returns c = search (copy_exits, rules)
