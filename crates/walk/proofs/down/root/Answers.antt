use Rattle.std.proofs.Common.{Err, rules, ◌≡◌}
use Rattle.walk.specs.Laws.Down.{root_ways}
use Rattle.walk.proofs.down.root.Goals as goal

pub returns-in_err-place-clause-over_read : goal.returns-in_err-place-clause-over_read
returns-in_err-place-clause-over_read c =
    let h = c.in_err-place.ensures in
    let e : c.from_residual.result ≡ Err c.in_err-place.field-0.0 = search rules in
    rw e (search (root_ways, rules))

pub returns-then-not-opens_at-clause-over_read : goal.returns-then-not-opens_at-clause-over_read
returns-then-not-opens_at-clause-over_read c =
    let h = c.in_ok-place.ensures in search (root_ways, rules)

pub returns-clause-over_read : goal.returns-clause-over_read
returns-clause-over_read c =
    let h = c.in_ok-place.ensures in search (root_ways, rules)
