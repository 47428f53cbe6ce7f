use Rattle.std.proofs.Common.{rules}
use Rattle.walk.specs.Laws.Take.{taken_flag_exits}
use Rattle.walk.proofs.take.take_flag.Goals as goal

pub returns-then-taken : goal.returns-then-taken
returns-then-taken c =
    let h = c.in_ok-taken.ensures in search (taken_flag_exits, rules)

pub flag_number-number-requires : goal.flag_number-number-requires
flag_number-number-requires c =
    let h = c.in_ok-taken.ensures in search (taken_flag_exits, rules)

pub returns : goal.returns
returns c =
    let h = c.in_ok-taken.ensures in search (taken_flag_exits, rules)
