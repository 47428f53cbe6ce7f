use Rattle.std.proofs.Common.{Err, rules, arith, refl, ◌≡◌, ◌+◌, ◌-◌, suc}
use Rattle.walk.specs.Laws.Down.{pass_exits, pass_more, pass_stops}
use Rattle.walk.proofs.down.go_down.Goals as goal

pub loop-below-init : goal.loop-below-init
loop-below-init c = search (pass_exits, rules)

pub loop-below-preserved : goal.loop-below-preserved
loop-below-preserved c =
    let h = c.in_ok-l.ensures in
    let v : c.loop-below.below - 1 + 1 ≡ c.loop-below.below = omega (arith, c.loop-below-test.true) in
    let l : suc (c.loop-below.below - 1) ≡ c.loop-below.below = omega (arith, c.loop-below-test.true) in
    pass_more _ _ _ _ _ _ _ _ _ _ _ _ _ _ c.loop-below.invariant c.loop-below-test.true _ v _ _ _ _ _ h.lowers l h.within

pub returns-in_err-l-clause-over_read : goal.returns-in_err-l-clause-over_read
returns-in_err-l-clause-over_read c =
    let h = c.in_err-l.ensures in
    let v : c.loop-below.below - 1 + 1 ≡ c.loop-below.below = omega (arith, c.loop-below-test.true) in
    let e : c.from_residual.result ≡ Err c.in_err-l.field-0.0 = search rules in
    rw e (pass_stops _ _ _ _ _ _ _ _ _ _ _ _ _ _ c.loop-below.invariant c.loop-below-test.true _ v _ _ _ _ _ _ h.lowers refl refl (omega arith))

pub returns-clause-over_read : goal.returns-clause-over_read
returns-clause-over_read c = search (pass_exits, rules)
