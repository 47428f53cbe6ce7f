use Rattle.std.proofs.Common.{Err, rules, ◌≡◌}
use Rattle.walk.specs.Laws.Search.{seek_exits}
use Rattle.walk.proofs.search.search.Goals as goal

pub returns-in_err-j : goal.returns-in_err-j
returns-in_err-j c =
    let h = c.in_err-j.ensures in
    let e : c.from_residual.result ≡ Err c.in_err-j.field-0.0 = search rules in
    rw e (search (seek_exits, rules))

pub returns-in-Some : goal.returns-in-Some
returns-in-Some c = let k = c.in_ok-j.ensures in let h = rw c.in-Some.is at k in search (seek_exits, rules)

pub loop-i-preserved : goal.loop-i-preserved
loop-i-preserved c = let k = c.in_ok-j.ensures in let h = rw c.in_default.is at k in search (seek_exits, rules)

pub returns : goal.returns
returns c = search (seek_exits, rules)
