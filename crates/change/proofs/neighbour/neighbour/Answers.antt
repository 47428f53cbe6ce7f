use Rattle.std.proofs.Common.{Err, rules, ◌≡◌}
use Rattle.change.specs.Laws.Neighbour.{neighbour_exits}
use Rattle.change.proofs.neighbour.neighbour.Goals as goal

pub returns-then-above-eq0 : goal.returns-then-above-eq0
returns-then-above-eq0 c = search (neighbour_exits, rules)

pub returns-then-other-name : goal.returns-then-other-name
returns-then-other-name c = search (neighbour_exits, rules)

pub returns-in_err-m : goal.returns-in_err-m
returns-in_err-m c =
    let k = c.in_err-m.ensures in
    let e : c.from_residual.result ≡ Err c.in_err-m.field-0.0 = search rules in
    rw e (search (neighbour_exits, rules))

pub returns : goal.returns
returns c =
    let h = c.in_ok-m.ensures in
    search (neighbour_exits, rules)
