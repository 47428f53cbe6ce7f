use Rattle.std.proofs.Common.{rules}
use Rattle.walk.specs.Laws.Ask.{meta_ways}
use Rattle.walk.proofs.walk.ask_meta.Goals as goal

pub returns-in_err-m : goal.returns-in_err-m
returns-in_err-m c = search (meta_ways, rules)

pub returns : goal.returns
returns c = search (meta_ways, rules)
