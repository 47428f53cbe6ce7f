use Rattle.std.proofs.Common.{rules}
use Rattle.kinds.specs.Laws.Fetch.{gates}
use Rattle.kinds.proofs.fetch.gate.Goals as goal

pub returns-in_err-lock_allows : goal.returns-in_err-lock_allows
returns-in_err-lock_allows c = search (gates, rules)

pub returns : goal.returns
returns c = search (gates, rules)
