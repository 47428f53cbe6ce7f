use Rattle.std.proofs.Common.{rules}
use Rattle.kinds.specs.Laws.Parts.{holds_as}
use Rattle.kinds.specs.Laws.Prepare.{is_decided}
use Rattle.kinds.proofs.prepare.decide.Goals as goal

pub returns : goal.returns
returns c = search (is_decided, rules)
