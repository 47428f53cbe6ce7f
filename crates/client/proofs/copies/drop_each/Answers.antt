use Rattle.std.proofs.Common.{rules}
use Rattle.client.specs.Laws.Copies.{each_none, each_next, each_all}
use Rattle.client.proofs.copies.drop_each.Goals as goal

pub loop-number-init : goal.loop-number-init
loop-number-init c = search (each_none, rules)

pub loop-number-preserved : goal.loop-number-preserved
loop-number-preserved c = search (each_next, rules)

pub returns : goal.returns
returns c = search (each_all, rules)
