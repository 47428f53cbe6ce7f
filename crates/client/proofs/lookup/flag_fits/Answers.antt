use Rattle.std.proofs.Common.{rules}
use Rattle.client.specs.Laws.Look.{flag_exits}
use Rattle.client.proofs.lookup.flag_fits.Goals as goal

pub returns-in-Here : goal.returns-in-Here
returns-in-Here c = search (flag_exits, rules)

pub returns-then-f-le1 : goal.returns-then-f-le1
returns-then-f-le1 c = search (flag_exits, rules)

pub returns-else-f-le1 : goal.returns-else-f-le1
returns-else-f-le1 c = search (flag_exits, rules)

pub returns-in-Lacking : goal.returns-in-Lacking
returns-in-Lacking c = search (flag_exits, rules)
