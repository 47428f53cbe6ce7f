use Rattle.std.proofs.Common.{Err, rules, arith, refl, ◌≡◌, ◌+◌, ◌-◌, suc}
use Rattle.walk.specs.Laws.Down.{reach_exits, reach_above, reach_more, reach_stops}
use Rattle.walk.proofs.down.reach.Goals as goal

pub loop-below-init : goal.loop-below-init
loop-below-init c = search (reach_exits, rules)

pub go_lower-requires-clause-from : goal.go_lower-requires-clause-from
go_lower-requires-clause-from c =
    let v : c.loop-below.below - 1 + 1 ≡ c.loop-below.below = omega (arith, c.loop-below-test.true) in
    (reach_above _ _ _ _ _ _ _ _ c.loop-below.invariant.0 _ v c.loop-below-test.true, c.loop-below.invariant.1)

pub returns-in_err-place-clause-reaching : goal.returns-in_err-place-clause-reaching
returns-in_err-place-clause-reaching c =
    let h = c.in_err-place.ensures in
    let v : c.loop-below.below - 1 + 1 ≡ c.loop-below.below = omega (arith, c.loop-below-test.true) in
    let e : c.from_residual.result ≡ Err c.in_err-place.field-0.0 = search rules in
    rw e (reach_stops _ _ _ _ _ _ _ _ c.loop-below.invariant.0 c.loop-below-test.true _ v _ _ _ _ _ _ h.lowers refl)

pub loop-below-preserved : goal.loop-below-preserved
loop-below-preserved c =
    let h = c.in_ok-place.ensures in
    let v : c.loop-below.below - 1 + 1 ≡ c.loop-below.below = omega (arith, c.loop-below-test.true) in
    let l : suc (c.loop-below.below - 1) ≡ c.loop-below.below = omega (arith, c.loop-below-test.true) in
    (reach_more _ _ _ _ _ _ _ _ c.loop-below.invariant.0 c.loop-below-test.true _ v _ _ _ _ _ h.lowers l, h.within, h.lowers.noted)

pub returns-clause-reaching : goal.returns-clause-reaching
returns-clause-reaching c = search (reach_exits, rules)
