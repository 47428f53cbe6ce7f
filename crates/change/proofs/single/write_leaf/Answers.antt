use Rattle.std.proofs.Common.{Err, rules, ◌≡◌}
use Rattle.change.specs.Laws.Single.{leaf_exits}
use Rattle.change.proofs.single.write_leaf.Goals as goal

pub returns-in_err-answer-in-Some : goal.returns-in_err-answer-in-Some
returns-in_err-answer-in-Some c =
    let k = c.in_err-answer-in-Some.ensures in
    let e : c.from_residual-in_err-answer-in-Some.result ≡ Err c.in_err-answer-in-Some.field-0.0 = search rules in
    rw (e, c.in-Some.is) (search (leaf_exits, rules))

pub node-requires : goal.node-requires
node-requires c = search (leaf_exits, rules)

pub with_version-node-requires : goal.with_version-node-requires
with_version-node-requires c = search (leaf_exits, rules)

pub returns-in_ok-answer-in-None : goal.returns-in_ok-answer-in-None
returns-in_ok-answer-in-None c =
    let h = c.in_ok-answer-in-None.ensures in
    rw c.in-None.is (search (leaf_exits, rules))

pub returns-in_ok-answer-in-Some : goal.returns-in_ok-answer-in-Some
returns-in_ok-answer-in-Some c =
    let h = c.in_ok-answer-in-Some.ensures in
    rw c.in-Some.is (search (leaf_exits, rules))
