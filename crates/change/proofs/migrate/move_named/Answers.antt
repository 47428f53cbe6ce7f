use Rattle.std.proofs.Common.{Err, rules, ◌≡◌}
use Rattle.change.specs.Laws.Migrate.{named_exits}
use Rattle.change.proofs.migrate.move_named.Goals as goal

pub returns-in_err-place : goal.returns-in_err-place
returns-in_err-place c =
    let k = c.in_err-place.ensures in
    let e : c.from_residual.result ≡ Err c.in_err-place.field-0.0 = search rules in
    rw e (search (named_exits, rules))

pub move_if-requires-clause-whole : goal.move_if-requires-clause-whole
move_if-requires-clause-whole c =
    let h = c.in_ok-place.ensures in
    search (named_exits, rules)

pub returns : goal.returns
returns c =
    let h = c.in_ok-place.ensures in
    search (named_exits, rules)
