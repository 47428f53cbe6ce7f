use Rattle.std.proofs.Common.{Err, rules, ◌≡◌}
use Rattle.change.specs.Laws.Move.{place_exits}
use Rattle.change.proofs.migrate.take_place.Goals as goal

pub returns-in_err-name : goal.returns-in_err-name
returns-in_err-name c =
    let k = c.in_err-name.ensures in
    let e : c.from_residual.result ≡ Err c.in_err-name.field-0.0 = search rules in
    rw e (search (place_exits, rules))

pub returns-in_err-take_node : goal.returns-in_err-take_node
returns-in_err-take_node c =
    let h = c.in_ok-name.ensures in
    let k = c.in_err-take_node.ensures in
    let e : c.from_residual-in_err-take_node.result ≡ Err c.in_err-take_node.field-0.0 = search rules in
    rw e (search (place_exits, rules))

pub returns : goal.returns
returns c =
    let h = c.in_ok-name.ensures in
    let h1 = c.in_ok-take_node.ensures in
    search (place_exits, rules)
