use Rattle.std.proofs.Common.{rules}
use Rattle.kinds.specs.Laws.Parts.{head_read}
use Rattle.kinds.proofs.sizes.head.Goals as goal

pub returns : goal.returns
returns c = search (head_read, rules)
