use Rattle.std.proofs.Common.{rules}
use Rattle.kinds.specs.Laws.Findings.{finding_exits}
use Rattle.kinds.proofs.findings.with_found.Goals as goal

pub returns-in-Ok : goal.returns-in-Ok
returns-in-Ok c = search (finding_exits, rules)

pub returns-in-Err : goal.returns-in-Err
returns-in-Err c = search (finding_exits, rules)
