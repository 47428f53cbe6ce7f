use Rattle.std.proofs.Common.{rules}
use Rattle.kinds.specs.Laws.Findings.{finding_exits}
use Rattle.kinds.proofs.findings.item_allows.Goals as goal

pub returns-then-not-item : goal.returns-then-not-item
returns-then-not-item c = search (finding_exits, rules)

pub returns-then-not-item-2 : goal.returns-then-not-item-2
returns-then-not-item-2 c = search (finding_exits, rules)

pub returns-then-is_locked : goal.returns-then-is_locked
returns-then-is_locked c = search (finding_exits, rules)

pub returns : goal.returns
returns c = search (finding_exits, rules)
