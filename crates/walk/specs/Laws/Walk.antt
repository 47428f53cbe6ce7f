-- Laws of walks: what ends one, and what a question comes to.
use Rattle.std.specs.Prelude.{◌≡◌, Bool, List, [], ◌∷◌, ◌++◌, ℕ, ◌-◌, length, take}
use Rattle.std.proofs.Math.Path.{refl}
use Rattle.std.proofs.Math.Bool.{true, false}
use Rattle.std.proofs.Common.{arith, length-append}
use Rattle.std.proofs.Math.Seq.{take-append_seam}
use Rattle.operations.specs.Object.{Ask, Val, Why, reason, Ans, Writes}
use Rattle.operations.specs.Path.{TreePlan}
use Rattle.walk.specs.declared.walk.Stop.TheVariants.{Aborts}
use Rattle.client.specs.Layout.{ClientWord}
use Rattle.client.specs.Run.{judged, run}
use Rattle.walk.specs.Walk.{Ended, Answered, told, over_run, over, worked, walked}
use Rattle.plans.specs.Plan as P

-- ---- the ends of a walk
module _ (slots : ℕ) (m : ClientWord → ℕ) (us : List ℕ) where
  pub walked_fails : (y : Why) → walked slots m (P.fail y) us ≡ told (Ended (Aborts (reason y))) us
  unfolding walked worked run
  walked_fails y = go (over m us) refl
    where
      go : (b : Bool) → over m us ≡ b → walked slots m (P.fail y) us ≡ told (Ended (Aborts (reason y))) us
      go true e = rw (e, walked, worked)
      go false e = rw (e, walked, worked)

  pub walked_done : (r : Ans × Writes) → over m us ≡ false
      → walked slots m (P.done r) us ≡ record { course = Answered r.0.0 r.0.1; used = us; writes = r.1; pairs = r.0.2 }
  unfolding walked worked run
  walked_done r h = rw h

  pub full_done : (r : Ans × Writes) → over m us ≡ true → walked slots m (P.done r) us ≡ told (Ended (Aborts 4)) (take (length us - 1) us)
  unfolding walked worked
  full_done r h = rw h

  pub full_ask : (a : Ask) (k : Val → TreePlan) → over m us ≡ true → walked slots m (P.ask a k) us ≡ told (Ended (Aborts 4)) (take (length us - 1) us)
  unfolding walked worked
  full_ask a k h = rw h

-- the object 97 that is entered
pub judged_over : (p : TreePlan) (x : ℕ) (us : List ℕ) → judged p x us ≡ over_run p (us ++ (x ∷ []))
judged_over (P.ask a k) x us = let e : length (us ++ (x ∷ [])) - 1 ≡ length us = simp length-append (omega arith) in rw (e, take-append_seam us (x ∷ []))
judged_over (P.done r) x us = let e : length (us ++ (x ∷ [])) - 1 ≡ length us = simp length-append (omega arith) in rw (e, take-append_seam us (x ∷ []))
judged_over (P.fail y) x us = refl
