use Rattle.std.proofs.Common.{Err, rules, ◌≡◌}
use Rattle.change.specs.Laws.Work.{ready_good, ready_noted, work_exits}
use Rattle.change.proofs.work.work.Goals as goal

pub walk-requires-clause-beginning : goal.walk-requires-clause-beginning
walk-requires-clause-beginning c = search (ready_good, ready_noted, rules)

pub returns-in_err-answer : goal.returns-in_err-answer
returns-in_err-answer c =
    let k = c.in_err-answer.ensures in
    let e : c.from_residual.result ≡ Err c.in_err-answer.field-0.0 = search rules in
    rw e (search (work_exits, rules))

pub returns-in_err-last_reason : goal.returns-in_err-last_reason
returns-in_err-last_reason c =
    let h = c.in_ok-answer.ensures in
    let k = c.in_err-last_reason.ensures in
    let e : c.from_residual-in_err-last_reason.result ≡ Err c.in_err-last_reason.field-0.0 = search rules in
    rw e (search (work_exits, rules))

pub last_reason-requires : goal.last_reason-requires
last_reason-requires c =
    let h = c.in_ok-answer.ensures in
    search (work_exits, rules)

pub returns : goal.returns
returns c =
    let h = c.in_ok-answer.ensures in
    let h1 = c.in_ok-last_reason.ensures in
    search (work_exits, rules)
