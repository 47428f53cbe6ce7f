use Rattle.std.proofs.Common.{Err, rules, ◌≡◌}
use Rattle.walk.specs.Laws.Search.{take_exits}
use Rattle.walk.proofs.search.take_on.Goals as goal

pub returns-in_err-states : goal.returns-in_err-states
returns-in_err-states c =
    let h = c.in_err-states.ensures in
    let e : c.from_residual.result ≡ Err c.in_err-states.field-0.0 = search rules in
    rw e (search (take_exits, rules))

pub returns-in_err-name : goal.returns-in_err-name
returns-in_err-name c =
    let k = c.in_ok-states.ensures in
    let h = c.in_err-name.ensures in
    let e : c.from_residual-in_err-name.result ≡ Err c.in_err-name.field-0.0 = search rules in
    rw e (search (take_exits, rules))

pub returns-in_err-take_flag : goal.returns-in_err-take_flag
returns-in_err-take_flag c =
    let k = c.in_ok-states.ensures in
    let k1 = c.in_ok-name.ensures in
    let h = c.in_err-take_flag.ensures in
    let e : c.from_residual-in_err-take_flag.result ≡ Err c.in_err-take_flag.field-0.0 = search rules in
    rw e (search (take_exits, rules))

pub returns : goal.returns
returns c =
    let h = c.in_ok-states.ensures in
    let h1 = c.in_ok-name.ensures in
    let h2 = c.in_ok-take_flag.ensures in search (take_exits, rules)
