use Rattle.std.proofs.Common.{Err, rules, ◌≡◌}
use Rattle.change.specs.Laws.Merge.{merge_exits}
use Rattle.change.proofs.neighbour.merge.Goals as goal

pub returns-in_err-release : goal.returns-in_err-release
returns-in_err-release c =
    let k = c.in_err-release.ensures in
    let e : c.from_residual.result ≡ Err c.in_err-release.field-0.0 = search rules in
    rw e (search (merge_exits, rules))

pub returns-in_err-end : goal.returns-in_err-end
returns-in_err-end c =
    let h = c.in_ok-release.ensures in
    let k = c.in_err-end.ensures in
    let e : c.from_residual-in_err-end.result ≡ Err c.in_err-end.field-0.0 = search rules in
    rw e (search (merge_exits, rules))

pub returns-then-collapses : goal.returns-then-collapses
returns-then-collapses c =
    let h = c.in_ok-release.ensures in
    let h1 = c.in_ok-end.ensures in
    search (merge_exits, rules)

pub write_node-requires : goal.write_node-requires
write_node-requires c =
    let h = c.in_ok-release.ensures in
    search (merge_exits, rules)

pub returns : goal.returns
returns c =
    let h = c.in_ok-release.ensures in
    search (merge_exits, rules)
