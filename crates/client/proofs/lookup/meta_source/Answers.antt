use Rattle.std.proofs.Common.{rules}
use Rattle.client.specs.Laws.Look.{short_exits}
use Rattle.client.proofs.lookup.meta_source.Goals as goal

pub returns-in-Some-meta_copy : goal.returns-in-Some-meta_copy
returns-in-Some-meta_copy c = search (short_exits, rules)

pub returns-in-None : goal.returns-in-None
returns-in-None c = search (short_exits, rules)
