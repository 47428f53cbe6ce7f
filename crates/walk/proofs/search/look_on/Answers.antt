use Rattle.std.proofs.Common.{Err, rules, ◌≡◌}
use Rattle.walk.specs.Laws.Vector.{look_exits}
use Rattle.walk.proofs.search.look_on.Goals as goal

pub returns-in_err-passed-in-None : goal.returns-in_err-passed-in-None
returns-in_err-passed-in-None c =
    let k = c.in_ok-ask_vector.ensures in
    let h = c.in_err-passed-in-None.ensures in
    let e : c.from_residual-in_err-passed-in-None.result ≡ Err c.in_err-passed-in-None.field-0.0 = search rules in
    rw e (search (look_exits, rules))

pub returns-in-Some : goal.returns-in-Some
returns-in-Some c =
    let h = c.in_ok-ask_vector.ensures in search (look_exits, rules)

pub returns-in_ok-passed-in-None : goal.returns-in_ok-passed-in-None
returns-in_ok-passed-in-None c =
    let h = c.in_ok-ask_vector.ensures in
    let h1 = c.in_ok-passed-in-None.ensures in search (look_exits, rules)
