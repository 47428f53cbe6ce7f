use Rattle.std.proofs.Common.{rules}
use Rattle.kinds.specs.Laws.Findings.{finding_exits}
use Rattle.kinds.proofs.findings.word_allows.Goals as goal

pub returns-then-not-word_fits : goal.returns-then-not-word_fits
returns-then-not-word_fits c = search (finding_exits, rules)

pub returns-then-is_busy : goal.returns-then-is_busy
returns-then-is_busy c = search (finding_exits, rules)

pub returns : goal.returns
returns c = search (finding_exits, rules)
