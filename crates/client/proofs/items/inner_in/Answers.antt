use Rattle.std.proofs.Common.{rules}
use Rattle.client.specs.Laws.Items.{inner_there, inner_absent}
use Rattle.client.proofs.items.inner_in.Goals as goal

pub returns-in-Some : goal.returns-in-Some
returns-in-Some c = search (inner_there, rules)

pub returns-in-None : goal.returns-in-None
returns-in-None c = search (inner_absent, rules)
