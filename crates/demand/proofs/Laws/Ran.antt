-- A client's run of a plan, with its limit of 96 objects, is the plan's walk unless it aborts; and what comes into use is what the walk used
-- and neither set has.
use Rattle.std.specs.Prelude.{◌≡◌, Bool, cond, ltb}
use Rattle.std.proofs.Math.Path.{refl, subst}
use Rattle.std.proofs.Common.{sym, ◌∙◌, ltb-true, length-append}
use Rattle.std.proofs.Math.Bool.{true, false}
use mathlib.Core.List.{List, [], ◌∷◌, ◌++◌}
use Rattle.std.proofs.Math.Option.{Option, none, some}
use Prim.Native.Nat.{ℕ, suc, ◌≤◌}
use native.Mathlib.Omega.{arith}
use Rattle.std.proofs.Math.ListN.{length}
use Rattle.operations.specs.Object.{Obj, Ask, object, vector, fetched, Val, Why, Ans, Writes}
use Rattle.operations.specs.Path.{TreePlan}
use Rattle.client.specs.Record.{number}
use Rattle.client.specs.Run.{End, lacks, aborts, gives, Ran, ran, among, judged, run}
use Rattle.plans.specs.Plan as P
use Rattle.plans.proofs.Laws.Walk as WLaws
use Rattle.plans.specs.Walk as W

pub one_more : (us : List ℕ) (x : ℕ) → length (us ++ (x ∷ [])) ≡ suc (length us)
one_more us x = length-append us (x ∷ []) ∙ omega arith

-- the numbers in use after one more question was answered, and after all of them
module _ (new : ℕ → Bool) where
  unfoldable pub with_used : List ℕ → Ask → List ℕ
  with_used us (object o) = cond (new (number o)) (cond (among (number o) us) us (us ++ (number o ∷ []))) us
  with_used us (vector s) = us
  with_used us (fetched s) = us

  unfoldable pub all_used : List Ask → List ℕ → List ℕ
  all_used [] us = us
  all_used (a ∷ qs) us = all_used qs (with_used us a)

  one_grows : (us : List ℕ) (a : Ask) → length us ≤ length (with_used us a)
  unfolding with_used
  one_grows us (vector s) = omega arith
  one_grows us (fetched s) = omega arith
  one_grows us (object o) = go (new (number o)) (among (number o) us)
    where
      go : (b c : Bool) → length us ≤ length (cond b (cond c us (us ++ (number o ∷ []))) us)
      go false c = omega arith
      go true true = omega arith
      go true false = omega (arith, one_more us (number o))

  pub used_grows : (qs : List Ask) (us : List ℕ) → length us ≤ length (all_used qs us)
  unfolding all_used
  used_grows [] us = omega arith
  used_grows (a ∷ qs) us = omega (arith, one_grows us a, used_grows qs (with_used us a))

-- where a run from us does not abort: the walk ends as it does, it has what the walk used, and no more than there is room for
abbrev Ends : WLaws.Met Ask (Ans × Writes) Why → WLaws.Met Ask (Ans × Writes) Why → List ℕ → List ℕ → ℕ → List ℕ → Type 0
Ends m e used us room l = (m ≡ e) × (used ≡ l) × (length us ≤ room → length used ≤ room)

abbrev pub Follows : WLaws.Met Ask (Ans × Writes) Why → List ℕ → List ℕ → ℕ → End → List ℕ → Type 0
Follows m l us room (aborts y) used = Unit {0}
Follows m l us room (lacks a) used = Ends m (WLaws.lacks a) used us room l
Follows m l us room (gives a w) used = Ends m (WLaws.ends (P.gives (a, w))) used us room l

-- with another number to start from
weaker : (m : WLaws.Met Ask (Ans × Writes) Why) (l us vs : List ℕ) (room : ℕ) (e : End) (used : List ℕ) → (length us ≤ room → length vs ≤ room)
    → Follows m l vs room e used → Follows m l us room e used
weaker m l us vs room (aborts y) used h f = tt
weaker m l us vs room (lacks a) used h f = (f.0, f.1, λ q. f.2 (h q))
weaker m l us vs room (gives a w) used h f = (f.0, f.1, λ q. f.2 (h q))

module _ (have : Ask → Option Val) (new : ℕ → Bool) (room : ℕ) where
  abbrev FollowsFrom : TreePlan → List ℕ → Ran → Type 0
  FollowsFrom p us r = Follows (WLaws.walk p have) (all_used new (W.used p have) us) us room r.how r.used

  -- object 97 aborts
  over_limit : (p q : TreePlan) (x : ℕ) (us vs : List ℕ) → Follows (WLaws.walk q have) vs us room (judged p x us).how (judged p x us).used
  over_limit (P.ask a k) q x us vs = tt
  over_limit (P.done r) q x us vs = tt
  over_limit (P.fail y) q x us vs = tt

  -- nothing at hand
  lacking : (a : Ask) (k : Val → TreePlan) (us : List ℕ) → have a ≡ none → FollowsFrom (P.ask a k) us (ran (lacks a) us)
  unfolding W.used all_used
  lacking a k us e = (WLaws.walk_lacks a k have e, rw (e, W.used, all_used) refl, λ q. q)

  -- a question that was answered
  asked : (a : Ask) (k : Val → TreePlan) (v : Val) (us : List ℕ) (r : Ran) → have a ≡ some v
      → Follows (WLaws.walk (k v) have) (all_used new (W.used (k v) have) (with_used new us a)) us room r.how r.used → FollowsFrom (P.ask a k) us r
  unfolding all_used
  asked a k v us r e f =
      subst (λ m. Follows m (all_used new (W.used (P.ask a k) have) us) us room r.how r.used) (sym (WLaws.walk_has a k have v e))
      (subst (λ l. Follows (WLaws.walk (k v) have) (all_used new l us) us room r.how r.used) (sym (WLaws.used_has a k have v e)) f)

  -- a vector is no object
  no_object : (a : Ask) (k : Val → TreePlan) (us : List ℕ)
      → run have new room (P.ask a k) us ≡ elim (have a) [ none ↦ ran (lacks a) us | some v ↦ run have new room (k v) us ] → with_used new us a ≡ us
      → ((v : Val) → FollowsFrom (k v) us (run have new room (k v) us)) → FollowsFrom (P.ask a k) us (run have new room (P.ask a k) us)
  no_object a k us is stays rec = subst (FollowsFrom (P.ask a k) us) (sym is) (go (have a) refl)
    where
      go : (z : Option Val) → have a ≡ z → FollowsFrom (P.ask a k) us (elim z [ none ↦ ran (lacks a) us | some v ↦ run have new room (k v) us ])
      go none e = lacking a k us e
      go (some v) e =
          let r = run have new room (k v) us in
          asked a k v us r e (subst (λ l. Follows (WLaws.walk (k v) have) (all_used new (W.used (k v) have) l) us room r.how r.used) (sym stays) (rec v))

  -- an object that is at hand
  one_object : (o : Obj) (k : Val → TreePlan) (v : Val) (us : List ℕ) → have (object o) ≡ some v
      → ((us : List ℕ) → FollowsFrom (k v) us (run have new room (k v) us)) → FollowsFrom (P.ask (object o) k) us (run have new room (P.ask (object o) k) us)
  unfolding run with_used
  one_object o k v us e rec = rw (e, run) (go (new (number o)) refl (among (number o) us) refl (ltb (length us) room) refl)
    where
      more : List ℕ
      more = us ++ (number o ∷ [])

      with_one : (b c d : Bool) → Ran
      with_one b c d = cond b (cond c (run have new room (k v) us) (cond d (run have new room (k v) more) (judged (k v) (number o) us))) (run have new room (k v) us)

      used_is : (b : Bool) → new (number o) ≡ b → (c : Bool) → among (number o) us ≡ c → with_used new us (object o) ≡ cond b (cond c us more) us
      used_is b p c q = rw (p, q) refl

      go : (b : Bool) → new (number o) ≡ b → (c : Bool) → among (number o) us ≡ c → (d : Bool) → ltb (length us) room ≡ d
          → FollowsFrom (P.ask (object o) k) us (with_one (new (number o)) (among (number o) us) (ltb (length us) room))
      go b p c q d l = rw (p, q, l) (asked (object o) k v us (with_one b c d) e
          (subst (λ r. Follows (WLaws.walk (k v) have) (all_used new (W.used (k v) have) r) us room (with_one b c d).how (with_one b c d).used) (sym (used_is b p c q)) (by b c d l)))
        where
          by : (b c d : Bool) → ltb (length us) room ≡ d
              → Follows (WLaws.walk (k v) have) (all_used new (W.used (k v) have) (cond b (cond c us more) us)) us room (with_one b c d).how (with_one b c d).used
          by false c d l = rec us
          by true true d l = rec us
          by true false true l =
              weaker (WLaws.walk (k v) have) (all_used new (W.used (k v) have) more) us more room (run have new room (k v) more).how (run have new room (k v) more).used
              (λ _. omega (arith, ltb-true (length us) room l, one_more us (number o))) (rec more)
          by true false false l = over_limit (k v) (k v) (number o) us (all_used new (W.used (k v) have) more)

  pub run_follows : (p : TreePlan) (us : List ℕ) → FollowsFrom p us (run have new room p us)
  unfolding run WLaws.walk W.used with_used all_used
  run_follows (P.done r) us = (refl, refl, λ q. q)
  run_follows (P.fail y) us = tt
  run_follows (P.ask (vector s) k) us = no_object (vector s) k us refl refl (λ v. run_follows (k v) us)
  run_follows (P.ask (fetched s) k) us = no_object (fetched s) k us refl refl (λ v. run_follows (k v) us)
  run_follows (P.ask (object o) k) us = go (have (object o)) refl (λ v us. run_follows (k v) us)
    where
      go : (z : Option Val) → have (object o) ≡ z → ((v : Val) (us : List ℕ) → FollowsFrom (k v) us (run have new room (k v) us))
          → FollowsFrom (P.ask (object o) k) us (run have new room (P.ask (object o) k) us)
      go none e rec = rw (e, run) (lacking (object o) k us e)
      go (some v) e rec = one_object o k v us e (rec v)
