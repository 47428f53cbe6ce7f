use Rattle.std.proofs.Common.{rules}
use Rattle.kinds.specs.Laws.Findings.{compared_lent}
use Rattle.kinds.proofs.findings.compared_at.Goals as goal

pub returns : goal.returns
returns c = search (compared_lent, rules)
