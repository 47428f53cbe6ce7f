use Rattle.std.proofs.Common.{rules}
use Rattle.client.specs.Laws.Lent.{own_value_there}
use Rattle.client.proofs.own.own_value.Goals as goal

pub returns : goal.returns
returns c = search (own_value_there, rules)
