use Rattle.std.proofs.Common.{rules}
use Rattle.change.specs.Laws.Migrate.{if_exits}
use Rattle.change.proofs.migrate.move_if.Goals as goal

pub returns-then-n-lt7 : goal.returns-then-n-lt7
returns-then-n-lt7 c = search (if_exits, rules)

pub returns : goal.returns
returns c = search (if_exits, rules)
