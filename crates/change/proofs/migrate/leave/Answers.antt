use Rattle.std.proofs.Common.{Err, rules, ◌≡◌}
use Rattle.change.specs.Laws.Move.{leave_exits}
use Rattle.change.proofs.migrate.leave.Goals as goal

pub returns-in_err-release : goal.returns-in_err-release
returns-in_err-release c =
    let k = c.in_err-release.ensures in
    let e : c.from_residual.result ≡ Err c.in_err-release.field-0.0 = search rules in
    rw e (search (leave_exits, rules))

pub write_node-requires : goal.write_node-requires
write_node-requires c =
    let h = c.in_ok-release.ensures in
    search (leave_exits, rules)

pub returns : goal.returns
returns c =
    let h = c.in_ok-release.ensures in
    search (leave_exits, rules)
