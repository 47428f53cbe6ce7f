use Rattle.std.proofs.Common.{Err, rules, ◌≡◌}
use Rattle.change.specs.Laws.Migrate.{below_exits}
use Rattle.change.proofs.migrate.move_below.Goals as goal

pub returns-in_err-d : goal.returns-in_err-d
returns-in_err-d c =
    let k = c.in_err-d.ensures in
    let e : c.from_residual.result ≡ Err c.in_err-d.field-0.0 = search rules in
    rw e (search (below_exits, rules))

pub returns : goal.returns
returns c =
    let h = c.in_ok-d.ensures in
    search (below_exits, rules)
