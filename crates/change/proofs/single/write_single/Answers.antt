use Rattle.std.proofs.Common.{Err, rules, ◌≡◌}
use Rattle.walk.specs.Laws.Begin.{nothing_noted}
use Rattle.change.specs.Laws.Single.{single_exits}
use Rattle.change.proofs.single.write_single.Goals as goal

pub walk-requires-clause-walking : goal.walk-requires-clause-walking
walk-requires-clause-walking c = search (nothing_noted, rules)

pub returns-in_err-walk : goal.returns-in_err-walk
returns-in_err-walk c =
    let k = c.in_err-walk.ensures in
    let e : c.from_residual.result ≡ Err c.in_err-walk.field-0.0 = search rules in
    rw e (search (single_exits, rules))

pub returns-in_err-single_reason-in-Some : goal.returns-in_err-single_reason-in-Some
returns-in_err-single_reason-in-Some c =
    let h = c.in_ok-walk.ensures in
    let k = c.in_err-single_reason-in-Some.ensures in
    let e : c.from_residual-in_err-single_reason-in-Some.result ≡ Err c.in_err-single_reason-in-Some.field-0.0 = search rules in
    rw e (search (single_exits, rules))

pub returns-in_ok-single_reason-in-Some : goal.returns-in_ok-single_reason-in-Some
returns-in_ok-single_reason-in-Some c =
    let h = c.in_ok-walk.ensures in
    let h1 = c.in_ok-single_reason-in-Some.ensures in
    search (single_exits, rules)
