use Rattle.std.proofs.Common.{rules}
use Rattle.change.specs.Laws.Last.{reason_exits}
use Rattle.change.proofs.last.reason_of.Goals as goal

pub returns-then-not-fit : goal.returns-then-not-fit
returns-then-not-fit c = search (reason_exits, rules)

pub returns-then-written-new-gt-MOST_WRITTEN : goal.returns-then-written-new-gt-MOST_WRITTEN
returns-then-written-new-gt-MOST_WRITTEN c = search (reason_exits, rules)

pub returns-then-not-known : goal.returns-then-not-known
returns-then-not-known c = search (reason_exits, rules)

pub returns-then-not-below : goal.returns-then-not-below
returns-then-not-below c = search (reason_exits, rules)

pub returns : goal.returns
returns c = search (reason_exits, rules)
