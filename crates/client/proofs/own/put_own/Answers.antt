use Rattle.std.proofs.Common.{rules}
use Rattle.nodes.proofs.Laws.Found.{found_inside}
use Rattle.client.specs.Laws.Lent.{own_replaced, replaced_fits, own_appended}
use Rattle.client.proofs.own.put_own.Goals as goal

pub returns-in-Some-clause-own_after : goal.returns-in-Some-clause-own_after
returns-in-Some-clause-own_after c = search (own_replaced, rules)

pub returns-in-Some-clause-fits : goal.returns-in-Some-clause-fits
returns-in-Some-clause-fits c = search (found_inside, replaced_fits, own_replaced, rules)

pub returns-in-None-clause-own_after : goal.returns-in-None-clause-own_after
returns-in-None-clause-own_after c = search (own_appended, rules)
