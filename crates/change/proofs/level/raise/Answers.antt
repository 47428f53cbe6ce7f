use Rattle.std.proofs.Common.{Err, rules, ◌≡◌}
use Rattle.change.specs.Laws.Level.{raise_exits}
use Rattle.change.proofs.level.raise.Goals as goal

pub returns-in_err-up : goal.returns-in_err-up
returns-in_err-up c =
    let k = c.in_err-up.ensures in
    let e : c.from_residual.result ≡ Err c.in_err-up.field-0.0 = search rules in
    rw e (search (raise_exits, rules))

pub returns-then-n-eq15 : goal.returns-then-n-eq15
returns-then-n-eq15 c =
    let h = c.in_ok-up.ensures in
    search (raise_exits, rules)

pub neighbour-requires-clause-of : goal.neighbour-requires-clause-of
neighbour-requires-clause-of c = search (raise_exits, rules)

pub returns-then-n-lt7 : goal.returns-then-n-lt7
returns-then-n-lt7 c = search (raise_exits, rules)

pub settle-requires-clause-name_lt_end_of_names : goal.settle-requires-clause-name_lt_end_of_names
settle-requires-clause-name_lt_end_of_names c = search (raise_exits, rules)

pub returns-in_err-end : goal.returns-in_err-end
returns-in_err-end c =
    let k = c.in_err-end.ensures in
    let e : c.from_residual-in_err-end.result ≡ Err c.in_err-end.field-0.0 = search rules in
    rw e (search (raise_exits, rules))

pub returns : goal.returns
returns c =
    let h = c.in_ok-end.ensures in
    search (raise_exits, rules)
