use Rattle.std.proofs.Common.{Err, rules, ◌≡◌}
use Rattle.change.specs.Laws.Parent.{child_exits}
use Rattle.change.proofs.migrate.move_child.Goals as goal

pub returns-in_err-to : goal.returns-in_err-to
returns-in_err-to c =
    let k = c.in_err-to.ensures in
    let e : c.from_residual.result ≡ Err c.in_err-to.field-0.0 = search rules in
    rw e (search (child_exits, rules))

pub with_slot-parent-requires : goal.with_slot-parent-requires
with_slot-parent-requires c =
    let h = c.in_ok-to.ensures in
    search (child_exits, rules)

pub write_node-requires : goal.write_node-requires
write_node-requires c =
    let h = c.in_ok-to.ensures in
    search (child_exits, rules)

pub returns : goal.returns
returns c =
    let h = c.in_ok-to.ensures in
    search (child_exits, rules)
