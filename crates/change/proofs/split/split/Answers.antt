use Rattle.std.proofs.Common.{Err, rules, ◌≡◌}
use Rattle.change.specs.Laws.Split.{split_exits}
use Rattle.change.proofs.split.split.Goals as goal

pub take_half-requires-clause-there : goal.take_half-requires-clause-there
take_half-requires-clause-there c = search (split_exits, rules)

pub returns-in_err-right : goal.returns-in_err-right
returns-in_err-right c =
    let k = c.in_err-right.ensures in
    let e : c.from_residual.result ≡ Err c.in_err-right.field-0.0 = search rules in
    rw e (search (split_exits, rules))

pub divide-requires-clause-left_lt_end_of_names : goal.divide-requires-clause-left_lt_end_of_names
divide-requires-clause-left_lt_end_of_names c =
    let h = c.in_ok-right.ensures in
    search (split_exits, rules)

pub returns : goal.returns
returns c =
    let h = c.in_ok-right.ensures in
    search (split_exits, rules)
