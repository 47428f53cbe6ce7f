use Rattle.std.proofs.Common.{Err, rules, ◌≡◌}
use Rattle.change.specs.Laws.Grow.{root_exits}
use Rattle.change.proofs.grow.split_root.Goals as goal

pub take_halves-requires-clause-there : goal.take_halves-requires-clause-there
take_halves-requires-clause-there c = search (root_exits, rules)

pub returns-in_err-t : goal.returns-in_err-t
returns-in_err-t c =
    let k = c.in_err-t.ensures in
    let e : c.from_residual.result ≡ Err c.in_err-t.field-0.0 = search rules in
    rw e (search (root_exits, rules))

pub grow-requires-clause-left_lt_end_of_names : goal.grow-requires-clause-left_lt_end_of_names
grow-requires-clause-left_lt_end_of_names c =
    let h = c.in_ok-t.ensures in
    search (root_exits, rules)

pub grow-requires-clause-there : goal.grow-requires-clause-there
grow-requires-clause-there c =
    let h = c.in_ok-t.ensures in
    search (root_exits, rules)

pub returns : goal.returns
returns c =
    let h = c.in_ok-t.ensures in
    search (root_exits, rules)
