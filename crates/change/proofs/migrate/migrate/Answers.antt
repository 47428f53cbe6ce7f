use Rattle.std.proofs.Common.{Err, rules, ◌≡◌}
use Rattle.change.specs.Laws.Migrate.{migrate_exits}
use Rattle.change.proofs.migrate.migrate.Goals as goal

pub returns-in_err-m : goal.returns-in_err-m
returns-in_err-m c =
    let k = c.in_err-m.ensures in
    let e : c.from_residual.result ≡ Err c.in_err-m.field-0.0 = search rules in
    rw e (search (migrate_exits, rules))

pub returns : goal.returns
returns c =
    let h = c.in_ok-m.ensures in
    search (migrate_exits, rules)
