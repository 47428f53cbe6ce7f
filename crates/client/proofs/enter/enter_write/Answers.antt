use Rattle.std.proofs.Common.{rules}
use Rattle.client.specs.Laws.Enter.{write_replaced, write_full, write_entered}
use Rattle.client.proofs.enter.enter_write.Goals as goal

pub returns-in-Some : goal.returns-in-Some
returns-in-Some c = search (write_replaced, rules)

pub returns-then-c-ge-MOST_WRITTEN : goal.returns-then-c-ge-MOST_WRITTEN
returns-then-c-ge-MOST_WRITTEN c = search (write_full, rules)

pub returns : goal.returns
returns c = search (write_entered, rules)
