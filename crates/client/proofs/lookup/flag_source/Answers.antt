use Rattle.std.proofs.Common.{rules}
use Rattle.client.specs.Laws.Look.{short_exits}
use Rattle.client.proofs.lookup.flag_source.Goals as goal

pub returns-in-Some-flag_copy : goal.returns-in-Some-flag_copy
returns-in-Some-flag_copy c = search (short_exits, rules)

pub returns-in-None : goal.returns-in-None
returns-in-None c = search (short_exits, rules)
