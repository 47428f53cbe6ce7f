use Rattle.std.proofs.Common.{Err, rules, ◌≡◌}
use Rattle.change.specs.Laws.Move.{move_exits}
use Rattle.change.proofs.migrate.move_to.Goals as goal

pub returns-in_err-to : goal.returns-in_err-to
returns-in_err-to c =
    let k = c.in_err-to.ensures in
    let e : c.from_residual.result ≡ Err c.in_err-to.field-0.0 = search rules in
    rw e (search (move_exits, rules))

pub returns-in_err-leave : goal.returns-in_err-leave
returns-in_err-leave c =
    let h = c.in_ok-to.ensures in
    let k = c.in_err-leave.ensures in
    let e : c.from_residual-in_err-leave.result ≡ Err c.in_err-leave.field-0.0 = search rules in
    rw e (search (move_exits, rules))

pub returns : goal.returns
returns c =
    let h = c.in_ok-to.ensures in
    let h1 = c.in_ok-leave.ensures in
    search (move_exits, rules)
