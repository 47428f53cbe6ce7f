use Rattle.std.proofs.Common.{rules}
use Rattle.walk.specs.Laws.Ask.{answer_exits}
use Rattle.walk.proofs.walk.see_flag.Goals as goal

pub flag_number-number-requires : goal.flag_number-number-requires
flag_number-number-requires c = search (answer_exits, rules)

pub returns-in-Some : goal.returns-in-Some
returns-in-Some c = search (answer_exits, rules)

pub returns-in-None : goal.returns-in-None
returns-in-None c = search (answer_exits, rules)
