use Rattle.std.proofs.Common.{rules}
use Rattle.client.specs.Laws.Look.{stand_exits}
use Rattle.client.proofs.lookup.stand_fits.Goals as goal

pub returns-in-Here : goal.returns-in-Here
returns-in-Here c = search (stand_exits, rules)

pub returns-then-in_range_at : goal.returns-then-in_range_at
returns-then-in_range_at c = search (stand_exits, rules)

pub returns-else-in_range_at : goal.returns-else-in_range_at
returns-else-in_range_at c = search (stand_exits, rules)

pub returns-in-Lacking : goal.returns-in-Lacking
returns-in-Lacking c = search (stand_exits, rules)
