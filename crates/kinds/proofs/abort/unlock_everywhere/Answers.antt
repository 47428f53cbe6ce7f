use Rattle.std.proofs.Common.{rules}
use Rattle.kinds.specs.Laws.Abort.{freed_none, freed_known, freed_next, freed_all}
use Rattle.kinds.proofs.abort.unlock_everywhere.Goals as goal

pub loop-s-init : goal.loop-s-init
loop-s-init c = search (freed_none, rules)

pub unlock_at-requires : goal.unlock_at-requires
unlock_at-requires c = search (freed_known, rules)

pub loop-s-preserved : goal.loop-s-preserved
loop-s-preserved c = search (freed_next, rules)

pub returns : goal.returns
returns c = search (freed_all, rules)
