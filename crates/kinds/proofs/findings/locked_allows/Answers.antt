use Rattle.std.proofs.Common.{rules}
use Rattle.kinds.specs.Laws.Findings.{finding_exits}
use Rattle.kinds.proofs.findings.locked_allows.Goals as goal

pub returns-in_err-lock_allows : goal.returns-in_err-lock_allows
returns-in_err-lock_allows c = search (finding_exits, rules)

pub returns : goal.returns
returns c = search (finding_exits, rules)
