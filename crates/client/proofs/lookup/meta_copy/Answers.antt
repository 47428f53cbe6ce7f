use Rattle.std.proofs.Common.{rules}
use Rattle.client.specs.Laws.Look.{meta_lacking, meta_there}
use Rattle.client.proofs.lookup.meta_copy.Goals as goal

pub returns-then-states-eq0 : goal.returns-then-states-eq0
returns-then-states-eq0 c = search (meta_lacking, rules)

pub returns : goal.returns
returns c = search (meta_there, rules)
