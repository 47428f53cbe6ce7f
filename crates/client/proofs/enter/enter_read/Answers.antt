use Rattle.std.proofs.Common.{rules}
use Rattle.client.specs.Laws.Enter.{read_full, read_entered}
use Rattle.client.proofs.enter.enter_read.Goals as goal

pub returns-then-c-ge-MOST_READ : goal.returns-then-c-ge-MOST_READ
returns-then-c-ge-MOST_READ c = search (read_full, rules)

pub returns : goal.returns
returns c = search (read_entered, rules)
