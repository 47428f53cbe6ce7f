use Rattle.std.proofs.Common.{rules}
use Rattle.kinds.specs.Laws.Fits.{fit_exits}
use Rattle.kinds.specs.Laws.Findings.{found_exits}
use Rattle.kinds.proofs.findings.check_prepare.Goals as goal

pub loop-i-init : goal.loop-i-init
loop-i-init c = search (found_exits, rules)

pub item_allows-found-requires : goal.item_allows-found-requires
item_allows-found-requires c = search (fit_exits, rules)

pub loop-i-preserved : goal.loop-i-preserved
loop-i-preserved c = search (found_exits, rules)

pub returns : goal.returns
returns c = search (found_exits, rules)
