use Rattle.std.proofs.Common.{rules}
use Rattle.kinds.specs.Laws.Parts.{holds_as}
use Rattle.kinds.specs.Laws.Apply.{still_known, is_applied}
use Rattle.kinds.proofs.apply.store_server.Goals as goal

pub change_all-requires : goal.change_all-requires
change_all-requires c = search (still_known, holds_as, rules)

pub returns : goal.returns
returns c = search (still_known, holds_as, is_applied, rules)
