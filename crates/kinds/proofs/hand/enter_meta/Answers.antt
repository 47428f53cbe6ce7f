use Rattle.std.proofs.Common.{rules}
use Rattle.kinds.specs.Laws.Hand.{entered_then}
use Rattle.kinds.proofs.hand.enter_meta.Goals as goal

pub returns : goal.returns
returns c = search (entered_then, rules)
