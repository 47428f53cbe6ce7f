use Rattle.std.proofs.Common.{Err, rules, ◌≡◌}
use Rattle.change.specs.Laws.Migrate.{root_moves}
use Rattle.change.proofs.migrate.move_root.Goals as goal

pub returns-in_err-to : goal.returns-in_err-to
returns-in_err-to c =
    let k = c.in_err-to.ensures in
    let e : c.from_residual.result ≡ Err c.in_err-to.field-0.0 = search rules in
    rw e (search (root_moves, rules))

pub returns : goal.returns
returns c =
    let h = c.in_ok-to.ensures in
    search (root_moves, rules)
