use Rattle.std.proofs.Common.{Err, rules, ◌≡◌}
use Rattle.change.specs.Laws.Up.{rise_exits}
use Rattle.change.proofs.up.rise.Goals as goal

pub loop-level-init : goal.loop-level-init
loop-level-init c = search (rise_exits, rules)

pub raise-requires-clause-rising : goal.raise-requires-clause-rising
raise-requires-clause-rising c = search (rise_exits, rules)

pub raise-requires-clause-under : goal.raise-requires-clause-under
raise-requires-clause-under c = search (rise_exits, rules)

pub raise-requires-clause-content : goal.raise-requires-clause-content
raise-requires-clause-content c = search (rise_exits, rules)

pub returns-in_err-end : goal.returns-in_err-end
returns-in_err-end c =
    let k = c.in_err-end.ensures in
    let e : c.from_residual.result ≡ Err c.in_err-end.field-0.0 = search rules in
    rw e (search (rise_exits, rules))

pub returns-in-Done : goal.returns-in-Done
returns-in-Done c =
    let k = c.in_ok-end.ensures in
    let h = rw c.in-Done.is at k in
    search (rise_exits, rules)

pub loop-level-preserved : goal.loop-level-preserved
loop-level-preserved c =
    let k = c.in_ok-end.ensures in
    let h = rw c.in-Up.is at k in
    search (rise_exits, rules)

pub at_top-requires : goal.at_top-requires
at_top-requires c = search (rise_exits, rules)

pub returns : goal.returns
returns c = search (rise_exits, rules)
