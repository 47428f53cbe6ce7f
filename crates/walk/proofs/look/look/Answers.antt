use Rattle.std.proofs.Common.{rules}
use Rattle.walk.specs.Laws.Look.{look_exits}
use Rattle.walk.specs.Laws.Begin.{nothing_noted}
use Rattle.walk.proofs.look.look.Goals as goal

pub lookup-requires : goal.lookup-requires
lookup-requires c = search (nothing_noted, rules)

pub near_one-requires : goal.near_one-requires
near_one-requires c = search (nothing_noted, rules)

pub near_one-requires-in-Previous : goal.near_one-requires-in-Previous
near_one-requires-in-Previous c = search (nothing_noted, rules)

pub returns-in-Lookup : goal.returns-in-Lookup
returns-in-Lookup c = search (look_exits, rules)

pub returns-in-Next : goal.returns-in-Next
returns-in-Next c = search (look_exits, rules)

pub returns-in-Previous : goal.returns-in-Previous
returns-in-Previous c = search (look_exits, rules)
