use Rattle.std.proofs.Common.{Err, rules, ◌≡◌}
use Rattle.walk.specs.Laws.Down.{root_exits}
use Rattle.walk.proofs.down.at_root.Goals as goal

pub returns-in_err-name-clause-over_read : goal.returns-in_err-name-clause-over_read
returns-in_err-name-clause-over_read c =
    let h = c.in_err-name.ensures in
    let e : c.from_residual.result ≡ Err c.in_err-name.field-0.0 = search rules in
    rw e (search (root_exits, rules))

pub returns-in_err-place-clause-over_read : goal.returns-in_err-place-clause-over_read
returns-in_err-place-clause-over_read c =
    let k = c.in_ok-name.ensures in
    let h = c.in_err-place.ensures in
    let e : c.from_residual-in_err-place.result ≡ Err c.in_err-place.field-0.0 = search rules in
    rw e (search (root_exits, rules))

pub returns-clause-over_read : goal.returns-clause-over_read
returns-clause-over_read c =
    let h = c.in_ok-name.ensures in
    let h1 = c.in_ok-place.ensures in search (root_exits, rules)
