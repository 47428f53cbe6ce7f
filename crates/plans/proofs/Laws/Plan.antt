-- Laws of plans run on a snapshot: only what is asked for counts; one plan after another; a plan whose vectors' answers are given beforehand.
use Rattle.std.specs.Prelude.{◌≡◌, Bool, true, ◌⊎◌}
use Rattle.std.proofs.Math.Path.{refl, ap}
use Rattle.std.proofs.Common.{◌∙◌, inl, inr}
use Rattle.plans.specs.Plan.{Plan, ask, done, fail, Out, gives, fails, exec, Asked, bind}

module _ {Obj Val Res Why : Type 0} where
  -- THE FRAME LAW: snapshots that agree on what is asked give one outcome
  pub exec_frame : (p : Plan Obj Val Res Why) (rd : Obj → Bool) (M U : Obj → Val)
      → ((o : Obj) → rd o ≡ true → M o ≡ U o) → Asked p rd M → exec p M ≡ exec p U
  unfolding exec Asked
  exec_frame (ask o k) rd M U agree h =
      exec_frame (k (M o)) rd M U agree h.1 ∙ ap (λ v. exec (k v) U) (agree o h.0)
  exec_frame (done r) rd M U agree h = refl
  exec_frame (fail y) rd M U agree h = refl

-- an outcome, gone on with
abbrev pub after : {A B Why : Type 0} → Out A Why → (A → Out B Why) → Out B Why
after (gives a) f = f a
after (fails y) f = fails y

pub exec_bind : {Obj Val A B Why : Type 0} (p : Plan Obj Val A Why) (f : A → Plan Obj Val B Why) (M : Obj → Val)
    → exec (bind p f) M ≡ after (exec p M) (λ a. exec (f a) M)
unfolding exec bind
exec_bind (ask o k) f M = exec_bind (k (M o)) f M
exec_bind (done a) f M = refl
exec_bind (fail y) f M = refl

-- the snapshot of all objects that a hint makes of one of the rest: the hint gives the value, or the object that is still asked for
unfoldable pub with_hint : {Obj Rest Val : Type 0} → (Obj → Val ⊎ Rest) → (Rest → Val) → Obj → Val
with_hint hint M o = elim (hint o) [ inl v ↦ v | inr r ↦ M r ]

module _ {Obj Rest Val Res Why : Type 0} (hint : Obj → Val ⊎ Rest) where
  -- a plan some of whose questions are answered beforehand
  unfoldable pub hinted : Plan Obj Val Res Why → Plan Rest Val Res Why
  hinted (ask o k) = elim (hint o) [ inl v ↦ hinted (k v) | inr r ↦ ask r (λ v. hinted (k v)) ]
  hinted (done a) = done a
  hinted (fail y) = fail y

  pub exec_hinted : (p : Plan Obj Val Res Why) (M : Rest → Val) → exec (hinted p) M ≡ exec p (with_hint hint M)
  unfolding exec hinted with_hint
  exec_hinted (ask o k) M = go (hint o) refl (λ v. exec_hinted (k v) M)
    where
      go : (z : Val ⊎ Rest) → hint o ≡ z → ((v : Val) → exec (hinted (k v)) M ≡ exec (k v) (with_hint hint M))
          → exec (hinted (ask o k)) M ≡ exec (ask o k) (with_hint hint M)
      go (inl v) e rec = rw (e, hinted, exec, with_hint) (rec v)
      go (inr r) e rec = rw (e, hinted, exec, with_hint) (rec (M r))
  exec_hinted (done a) M = refl
  exec_hinted (fail y) M = refl
