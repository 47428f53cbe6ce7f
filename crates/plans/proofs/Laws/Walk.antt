-- A plan walked over what a client has: its result, the first object lacking, or a failure; and that more at hand does not change what was used.
use Rattle.std.specs.Prelude.{◌≡◌, Bool, true, false, List, [], ◌∷◌}
use Rattle.std.proofs.Math.Path.{refl, ap, subst}
use Rattle.std.proofs.Common.{sym, ◌∙◌, true≢false}
use Rattle.std.proofs.Math.Option.{Option, none, some, get_or}
use Rattle.plans.specs.Plan.{Plan, ask, done, fail, Out, gives, fails, exec, Asked, bind}
use Rattle.plans.specs.Walk.{Every, used}

pub data Met (Obj Res Why : Type 0) : Type 0 where
  lacks : Obj → Met Obj Res Why
  ends : Out Res Why → Met Obj Res Why

-- what is at hand is what the snapshot M has
abbrev pub Shows : {Obj Val : Type 0} → (Obj → Option Val) → (Obj → Val) → List Obj → Type 0
Shows have M = Every (λ o. have o ≡ some (M o))

lacks≢ends : {Obj Res Why : Type 0} {o : Obj} {e : Out Res Why} → ◌≡◌ {A = Met Obj Res Why} (lacks o) (ends e) → ⊥
lacks≢ends {Obj = Obj} {Res = Res} {Why = Why} e = true≢false (ap lacking e)
  where
    lacking : Met Obj Res Why → Bool
    lacking (lacks o) = true
    lacking (ends e) = false

same_lack : {Obj Res Why : Type 0} {o q : Obj} → ◌≡◌ {A = Met Obj Res Why} (lacks o) (lacks q) → o ≡ q
same_lack {Obj = Obj} {Res = Res} {Why = Why} {o = o} e = ap lacking e
  where
    lacking : Met Obj Res Why → Obj
    lacking (lacks x) = x
    lacking (ends d) = o

end_of : {Obj Res Why : Type 0} → Out Res Why → Met Obj Res Why → Out Res Why
end_of d (lacks o) = d
end_of d (ends e) = e

the_value : {Val : Type 0} (v u : Val) → some v ≡ some u → v ≡ u
the_value v u e = ap (λ z. get_or z v) e

module _ {Obj Val Res Why : Type 0} where
  -- "A work step that lacks an object fetches the first one lacking and does no more"
  unfoldable pub walk : Plan Obj Val Res Why → (Obj → Option Val) → Met Obj Res Why
  walk (ask o k) have = elim (have o) [ none ↦ lacks o | some v ↦ walk (k v) have ]
  walk (done r) have = ends (gives r)
  walk (fail y) have = ends (fails y)

  -- a step of the walk, where the object is at hand and where it is not
  pub walk_has : (o : Obj) (k : Val → Plan Obj Val Res Why) (have : Obj → Option Val) (v : Val) → have o ≡ some v → walk (ask o k) have ≡ walk (k v) have
  unfolding walk
  walk_has o k have v e = rw (e, walk)

  pub walk_lacks : (o : Obj) (k : Val → Plan Obj Val Res Why) (have : Obj → Option Val) → have o ≡ none → walk (ask o k) have ≡ lacks o
  unfolding walk
  walk_lacks o k have e = rw (e, walk)

  pub used_has : (o : Obj) (k : Val → Plan Obj Val Res Why) (have : Obj → Option Val) (v : Val) → have o ≡ some v → used (ask o k) have ≡ o ∷ used (k v) have
  unfolding used
  used_has o k have v e = rw (e, used)

  -- a walk that ends at a question went through the object's value
  pub walk_met : (o : Obj) (k : Val → Plan Obj Val Res Why) (have : Obj → Option Val) (e : Out Res Why)
      → walk (ask o k) have ≡ ends e → (v : Val) × (have o ≡ some v) × (walk (k v) have ≡ ends e)
  walk_met o k have e w = go (have o) refl
    where
      go : (z : Option Val) → have o ≡ z → (v : Val) × (have o ≡ some v) × (walk (k v) have ≡ ends e)
      go none q = absurd (lacks≢ends (sym (walk_lacks o k have q) ∙ w))
      go (some v) q = (v, q, sym (walk_has o k have v q) ∙ w)

  -- THE FRAME LAW: with more at hand a walk that ends is the same
  pub walk_more : (p : Plan Obj Val Res Why) (have more : Obj → Option Val) (e : Out Res Why)
      → ((o : Obj) (v : Val) → have o ≡ some v → more o ≡ some v) → walk p have ≡ ends e → walk p more ≡ ends e
  unfolding walk
  walk_more (ask o k) have more e h w =
      let m = walk_met o k have e w in
      walk_has o k more m.0 (h o m.0 m.1) ∙ walk_more (k m.0) have more e h m.2
  walk_more (done r) have more e h w = w
  walk_more (fail y) have more e h w = w

  -- an object that is lacking is not at hand
  pub lacks_none : (p : Plan Obj Val Res Why) (have : Obj → Option Val) (o : Obj) → walk p have ≡ lacks o → have o ≡ none
  unfolding walk
  lacks_none (ask q k) have o w = go (have q) refl (λ v. lacks_none (k v) have o)
    where
      go : (z : Option Val) → have q ≡ z → ((v : Val) → walk (k v) have ≡ lacks o → have o ≡ none) → have o ≡ none
      go none e rec = subst (λ x. have x ≡ none) (same_lack (sym (walk_lacks q k have e) ∙ w)) e
      go (some v) e rec = rec v (sym (walk_has q k have v e) ∙ w)
  lacks_none (done r) have o w = absurd (lacks≢ends (sym w))
  lacks_none (fail y) have o w = absurd (lacks≢ends (sym w))

  -- an object that is used is at hand
  pub used_had : (p : Plan Obj Val Res Why) (have : Obj → Option Val) → Every (λ o. (v : Val) × (have o ≡ some v)) (used p have)
  unfolding used Every
  used_had (ask o k) have = go (have o) refl (λ v. used_had (k v) have)
    where
      go : (z : Option Val) → have o ≡ z → ((v : Val) → Every (λ o. (v : Val) × (have o ≡ some v)) (used (k v) have))
          → Every (λ o. (v : Val) × (have o ≡ some v)) (used (ask o k) have)
      go none q rec = rw (q, used) tt
      go (some v) q rec = subst (Every (λ o. (v : Val) × (have o ≡ some v))) (sym (used_has o k have v q)) ((v, q), rec v)
  used_had (done r) have = tt
  used_had (fail y) have = tt

  -- a walk that ends is the plan's outcome over every snapshot that shows what was used
  pub walk_exec : (p : Plan Obj Val Res Why) (have : Obj → Option Val) (M : Obj → Val) (e : Out Res Why)
      → Shows have M (used p have) → walk p have ≡ ends e → exec p M ≡ e
  unfolding walk exec end_of Every
  walk_exec (ask o k) have M e h w =
      let m = walk_met o k have e w in
      let s = subst (Shows have M) (used_has o k have m.0 m.1) h in
      subst (λ v. exec (k v) M ≡ e) (the_value m.0 (M o) (sym m.1 ∙ s.0)) (walk_exec (k m.0) have M e s.1 m.2)
  walk_exec (done r) have M e h w = ap (end_of e) w
  walk_exec (fail y) have M e h w = ap (end_of e) w

  -- and the plan asks there for what was used
  pub walk_asked : (p : Plan Obj Val Res Why) (have : Obj → Option Val) (M : Obj → Val) (rd : Obj → Bool) (e : Out Res Why)
      → walk p have ≡ ends e → Shows have M (used p have) → Every (λ o. rd o ≡ true) (used p have) → Asked p rd M
  unfolding Asked Every
  walk_asked (ask o k) have M rd e w h r =
      let m = walk_met o k have e w in
      let u = used_has o k have m.0 m.1 in
      let s = subst (Shows have M) u h in
      let t = subst (Every (λ o. rd o ≡ true)) u r in
      (t.0, subst (λ v. Asked (k v) rd M) (the_value m.0 (M o) (sym m.1 ∙ s.0)) (walk_asked (k m.0) have M rd e m.2 s.1 t.1))
  walk_asked (done r) have M rd e w h q = tt
  walk_asked (fail y) have M rd e w h q = tt

-- what a walk comes to, gone on with
abbrev pub then : {Obj A B Why : Type 0} → Met Obj A Why → (A → Met Obj B Why) → Met Obj B Why
then (lacks o) f = lacks o
then (ends (gives a)) f = f a
then (ends (fails y)) f = ends (fails y)

-- one plan after another
pub walk_bind : {Obj Val A B Why : Type 0} (p : Plan Obj Val A Why) (f : A → Plan Obj Val B Why) (have : Obj → Option Val)
    → walk (bind p f) have ≡ then (walk p have) (λ a. walk (f a) have)
unfolding walk bind
walk_bind {Val = Val} {A} {B} {Why} (ask o k) f have = go (have o) refl (λ v. walk_bind (k v) f have)
  where
    go : (z : Option Val) → have o ≡ z → ((v : Val) → walk (bind (k v) f) have ≡ then (walk (k v) have) (λ a. walk (f a) have))
        → walk (bind (ask o k) f) have ≡ then (walk (ask o k) have) (λ a. walk (f a) have)
    go none q rec = rw (q, walk, bind)
    go (some v) q rec = rw (q, walk, bind) (rec v)
walk_bind (done a) f have = refl
walk_bind (fail y) f have = refl

-- and what is used, where the second one asks for nothing
pub used_bind : {Obj Val A B Why : Type 0} (p : Plan Obj Val A Why) (f : A → Plan Obj Val B Why) (have : Obj → Option Val)
    → ((a : A) → used (f a) have ≡ []) → used (bind p f) have ≡ used p have
unfolding used bind
used_bind {Obj = Obj} {Val = Val} {A} {B} {Why} (ask o k) f have h = go (have o) refl (λ v. used_bind (k v) f have h)
  where
    go : (z : Option Val) → have o ≡ z → ((v : Val) → used (bind (k v) f) have ≡ used (k v) have) → used (bind (ask o k) f) have ≡ used (ask o k) have
    go none q rec = rw (q, used, bind)
    go (some v) q rec = rw (q, used, bind) (ap (λ (l : List Obj). o ∷ l) (rec v))
used_bind (done a) f have h = h a
used_bind (fail y) f have h = refl
