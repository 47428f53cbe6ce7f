use Rattle.std.proofs.Common.{Err, rules, ◌≡◌}
use Rattle.change.specs.Laws.Split.{half_exits}
use Rattle.change.proofs.split.take_half.Goals as goal

pub returns-in_err-take_node : goal.returns-in_err-take_node
returns-in_err-take_node c =
    let h = c.in_ok-half.ensures in
    let k = c.in_err-take_node.ensures in
    let e : c.from_residual-in_err-take_node.result ≡ Err c.in_err-take_node.field-0.0 = search rules in
    rw e (search (half_exits, rules))

pub returns : goal.returns
returns c =
    let h = c.in_ok-half.ensures in
    let h1 = c.in_ok-take_node.ensures in
    search (half_exits, rules)
