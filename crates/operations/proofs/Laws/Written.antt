-- The writes of an operation as the test and the function that they are: what a snapshot has with them, and what the operation reads.
use Rattle.std.specs.Prelude.{◌≡◌, refl, Bool, true, false, cond, [], ◌∷◌}
use Rattle.operations.specs.Object.{Obj, object, Val, Writes, hit, over, written_value}
use Rattle.operations.proofs.Laws.Object.{written}
use Rattle.operations.specs.Path.{TreePlan, see}
use Rattle.plans.specs.Plan as P

pub over_is : (w : Writes) (M : Obj → Val) (o : Obj) → over w M o ≡ cond (written w o) (written_value w o) (M o)
over_is [] M o = refl
over_is (e ∷ w) M o = go (hit e.0 o) (over_is w M o)
  where
    go : (b : Bool) → over w M o ≡ cond (written w o) (written_value w o) (M o)
        → cond b e.1 (over w M o) ≡ cond (cond b true (written w o)) (cond b e.1 (written_value w o)) (M o)
    go true r = refl
    go false r = r

-- own writes are read, everything else is asked for
pub see_is : (w : Writes) (o : Obj) (k : Val → TreePlan) → see w o k ≡ cond (written w o) (k (written_value w o)) (P.ask (object o) k)
see_is [] o k = refl
see_is (e ∷ w) o k = go (hit e.0 o) (see_is w o k)
  where
    go : (b : Bool) → see w o k ≡ cond (written w o) (k (written_value w o)) (P.ask (object o) k)
        → cond b (k e.1) (see w o k) ≡ cond (cond b true (written w o)) (k (cond b e.1 (written_value w o))) (P.ask (object o) k)
    go true r = refl
    go false r = r
