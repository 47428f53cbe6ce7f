use Rattle.std.proofs.Common.{Err, rules, ◌≡◌}
use Rattle.walk.specs.Laws.Seek.{read_exits}
use Rattle.walk.proofs.seek.read_on.Goals as goal

pub returns-in_err-place-clause-reads_on : goal.returns-in_err-place-clause-reads_on
returns-in_err-place-clause-reads_on c =
    let h = c.in_err-place.ensures in
    let e : c.from_residual.result ≡ Err c.in_err-place.field-0.0 = search rules in
    rw e (search (read_exits, rules))

pub advance-requires-clause-at : goal.advance-requires-clause-at
advance-requires-clause-at c =
    let h = c.in_ok-place.ensures in search (read_exits, rules)

pub returns-clause-reads_on : goal.returns-clause-reads_on
returns-clause-reads_on c =
    let h = c.in_ok-place.ensures in search (read_exits, rules)
