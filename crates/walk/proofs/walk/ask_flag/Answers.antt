use Rattle.std.proofs.Common.{rules}
use Rattle.walk.specs.Laws.Ask.{flag_ways}
use Rattle.walk.proofs.walk.ask_flag.Goals as goal

pub returns-in_err-f : goal.returns-in_err-f
returns-in_err-f c = search (flag_ways, rules)

pub returns : goal.returns
returns c = search (flag_ways, rules)
