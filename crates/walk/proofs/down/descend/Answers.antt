use Rattle.std.proofs.Common.{Err, rules, ◌≡◌}
use Rattle.walk.specs.Laws.Down.{descend_exits}
use Rattle.walk.proofs.down.descend.Goals as goal

pub returns-in_err-r-clause-over_read : goal.returns-in_err-r-clause-over_read
returns-in_err-r-clause-over_read c =
    let h = c.in_err-r.ensures in
    let e : c.from_residual.result ≡ Err c.in_err-r.field-0.0 = search rules in
    rw e (search (descend_exits, rules))

pub returns-clause-over_read : goal.returns-clause-over_read
returns-clause-over_read c =
    let h = c.in_ok-r.ensures in search (descend_exits, rules)
