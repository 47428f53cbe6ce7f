use Rattle.std.proofs.Common.{rules}
use Rattle.client.specs.Laws.Renew.{nth_renewed, nth_none}
use Rattle.client.proofs.renew.renew_nth.Goals as goal

pub returns-in-Some : goal.returns-in-Some
returns-in-Some c = search (nth_renewed, rules)

pub returns-in_default : goal.returns-in_default
returns-in_default c = search (nth_none, rules)
