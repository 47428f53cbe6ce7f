use Rattle.std.proofs.Common.{rules}
use Rattle.kinds.specs.Laws.Findings.{finding_exits}
use Rattle.kinds.proofs.findings.marks_allow.Goals as goal

pub returns-then-checked : goal.returns-then-checked
returns-then-checked c = search (finding_exits, rules)

pub returns : goal.returns
returns c = search (finding_exits, rules)
