use Rattle.std.proofs.Common.{Err, rules, ◌≡◌}
use Rattle.change.specs.Laws.Grow.{halves_exits}
use Rattle.change.proofs.grow.take_halves.Goals as goal

pub returns-in_err-t : goal.returns-in_err-t
returns-in_err-t c =
    let k = c.in_err-t.ensures in
    let e : c.from_residual.result ≡ Err c.in_err-t.field-0.0 = search rules in
    rw e (search (halves_exits, rules))

pub returns-in_err-both_free : goal.returns-in_err-both_free
returns-in_err-both_free c =
    let h = c.in_ok-t.ensures in
    let k = c.in_err-both_free.ensures in
    let e : c.from_residual-in_err-both_free.result ≡ Err c.in_err-both_free.field-0.0 = search rules in
    rw e (search (halves_exits, rules))

pub returns : goal.returns
returns c =
    let h = c.in_ok-t.ensures in
    let h1 = c.in_ok-both_free.ensures in
    search (halves_exits, rules)
