use Rattle.std.proofs.Common.{Err, rules, ◌≡◌}
use Rattle.walk.specs.Laws.Down.{lower_exits}
use Rattle.walk.proofs.down.go_lower.Goals as goal

pub returns-in_err-below-clause-lowers : goal.returns-in_err-below-clause-lowers
returns-in_err-below-clause-lowers c =
    let h = c.in_err-below.ensures in
    let e : c.from_residual.result ≡ Err c.in_err-below.field-0.0 = search rules in
    rw e (search (lower_exits, rules))

pub returns-clause-lowers : goal.returns-clause-lowers
returns-clause-lowers c =
    let h = c.in_ok-below.ensures in search (lower_exits, rules)
