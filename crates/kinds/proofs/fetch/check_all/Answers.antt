use Rattle.std.proofs.Common.{rules}
use Rattle.std.proofs.Common.{◌+◌, get_or}
use Rattle.kinds.specs.Laws.Fetch.{finding_all, known_found_all}
use Rattle.kinds.proofs.fetch.check_all.Goals as goal

pub loop-i-init : goal.loop-i-init
loop-i-init c = search (finding_all, rules)

pub item_allows-found-requires : goal.item_allows-found-requires
item_allows-found-requires c = search (finding_all, rules)

pub loop-i-preserved : goal.loop-i-preserved
loop-i-preserved c = search (finding_all, rules)

pub returns : goal.returns
returns c = known_found_all _ _ _ _ _ _ (c.reads_of.result + get_or c.args.used.now 0 0) _ _ c.requires.in_use (search rules) (search rules) (search rules) c.loop-i.invariant c.decided.ensures
