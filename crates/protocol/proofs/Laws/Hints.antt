-- An operation of the protocol is a public one with its hint: what the client saw of the vectors, which are no objects and are not checked.
-- A plan that asks for vectors too, walked over all that is at hand, comes to the same as the hinted plan walked over the objects alone.
use Rattle.std.specs.Prelude.{◌≡◌, Bool, true, false, ◌⊎◌}
use Rattle.std.proofs.Math.Path.{refl, subst}
use Rattle.std.proofs.Common.{ap, sym, ◌∙◌, inl, inr}
use mathlib.Core.List.{List, [], ◌∷◌}
use Rattle.std.proofs.Math.Option.{Option, some}
use Rattle.base.specs.Test.{not_both}
use Rattle.plans.specs.Plan.{Plan, ask, done, fail, Out, gives, exec, Asked}
use Rattle.plans.proofs.Laws.Plan.{with_hint, hinted, exec_hinted}
use Rattle.plans.proofs.Laws.Walk.{Met, lacks, ends, walk, walk_has, used_has, walk_met}
use Rattle.plans.specs.Walk.{used}
use Rattle.protocol.proofs.Laws.Shape.{SeesOuter, outer_asked}

-- a value at hand is what the hint says, or what is at hand of the object that the question is passed on to
abbrev pub Fits : {Rest Val : Type 0} → (Rest → Option Val) → Val ⊎ Rest → Val → Type 0
Fits rest (inl u) v = u ≡ v
Fits rest (inr r) v = rest r ≡ some v

-- the objects among what was asked for
unfoldable pub objects : {Obj Rest Val : Type 0} → (Obj → Val ⊎ Rest) → List Obj → List Rest
objects hint [] = []
objects hint (o ∷ os) = elim (hint o) [ inl u ↦ objects hint os | inr r ↦ r ∷ objects hint os ]

-- what is asked for, counting what a hint tells
unfoldable pub asked_with : {Obj Rest Val : Type 0} → (Obj → Val ⊎ Rest) → (Rest → Bool) → Obj → Bool
asked_with hint asked o = elim (hint o) [ inl u ↦ true | inr r ↦ asked r ]

-- the outcome of a walk that ends
came_to : {Obj Res Why : Type 0} → Out Res Why → Met Obj Res Why → Out Res Why
came_to d (lacks o) = d
came_to d (ends e) = e

module _ {Obj Rest Val Res Why : Type 0} (hint : Obj → Val ⊎ Rest) where
  told : (o : Obj) (k : Val → Plan Obj Val Res Why) (u : Val) → hint o ≡ inl u → hinted hint (ask o k) ≡ hinted hint (k u)
  unfolding hinted
  told o k u q = rw (q, hinted)

  passed_on : (o : Obj) (k : Val → Plan Obj Val Res Why) (r : Rest) → hint o ≡ inr r → hinted hint (ask o k) ≡ ask r (λ v. hinted hint (k v))
  unfolding hinted
  passed_on o k r q = rw (q, hinted)

  -- the walk that ends is the hinted plan's, and what that one uses are the objects used
  pub walk_hinted : (have : Obj → Option Val) (rest : Rest → Option Val) → ((o : Obj) (v : Val) → have o ≡ some v → Fits rest (hint o) v)
      → (p : Plan Obj Val Res Why) (e : Out Res Why)
      → walk p have ≡ ends e → (walk (hinted hint p) rest ≡ ends e) × (used (hinted hint p) rest ≡ objects hint (used p have))
  unfolding walk used hinted objects came_to
  walk_hinted have rest fits (ask o k) e w =
      let t = walk_met o k have e w in go (hint o) refl t.0 t.1 (walk_hinted have rest fits (k t.0) e t.2)
    where
      Same : Plan Rest Val Res Why → List Obj → Type 0
      Same p os = (walk p rest ≡ ends e) × (used p rest ≡ objects hint os)

      go : (z : Val ⊎ Rest) → hint o ≡ z → (v : Val) → have o ≡ some v → Same (hinted hint (k v)) (used (k v) have)
          → Same (hinted hint (ask o k)) (used (ask o k) have)
      go (inl u) q v h s =
          let here : u ≡ v = subst (λ z. Fits rest z v) q (fits o v h) in
          subst (λ p. Same p (used (ask o k) have)) (sym (told o k u q ∙ ap (λ v. hinted hint (k v)) here))
          (s.0, s.1 ∙ sym (ap (objects hint) (used_has o k have v h) ∙ rw (q, objects)))
      go (inr r) q v h s =
          let here : rest r ≡ some v = subst (λ z. Fits rest z v) q (fits o v h) in
          subst (λ p. Same p (used (ask o k) have)) (sym (passed_on o k r q)) (
            walk_has r (λ v. hinted hint (k v)) rest v here ∙ s.0,
            used_has r (λ v. hinted hint (k v)) rest v here ∙ ap (λ l. r ∷ l) s.1
                ∙ sym (ap (objects hint) (used_has o k have v h) ∙ rw (q, objects)),
          )
  walk_hinted have rest fits (done r) e w = (ap ends (ap (came_to e) w), refl)
  walk_hinted have rest fits (fail y) e w = (ap ends (ap (came_to e) w), refl)

  -- what the hinted plan asks for the plan asks for, but for what the hint tells: so what holds of the plan's questions and writes holds of
  -- the hinted plan's
  pub asked_hinted : (p : Plan Obj Val Res Why) (asked : Rest → Bool) (M : Rest → Val) → Asked (hinted hint p) asked M
      → Asked p (asked_with hint asked) (with_hint hint M)
  unfolding Asked asked_with with_hint hinted
  asked_hinted (ask o k) asked M h = go (hint o) refl (λ v. asked_hinted (k v) asked M)
    where
      go : (z : Val ⊎ Rest) → hint o ≡ z → ((v : Val) → Asked (hinted hint (k v)) asked M → Asked (k v) (asked_with hint asked) (with_hint hint M))
          → Asked (ask o k) (asked_with hint asked) (with_hint hint M)
      go (inl v) q rec = (rw (q, asked_with) refl, rw (q, with_hint) (rec v (subst (λ p. Asked p asked M) (told o k v q) h)))
      go (inr r) q rec =
          let h' = subst (λ p. Asked p asked M) (passed_on o k r q) h in
          (rw (q, asked_with) h'.0, rw (q, with_hint) (rec (M r) h'.1))
  asked_hinted (done r) asked M h = tt
  asked_hinted (fail y) asked M h = tt

  -- `asks_outer` of a hinted plan, from the plan, where vectors do not count as outer
  pub outer_hinted : (inner : Obj → Val → Bool) (inner_rest : Rest → Val → Bool)
      → ((o : Obj) (u : Val) → hint o ≡ inl u → inner o u ≡ true) → ((o : Obj) (q : Rest) → hint o ≡ inr q → (v : Val) → inner_rest q v ≡ inner o v)
      → (p : Plan Obj Val Res Why) → SeesOuter inner p false → (asked : Rest → Bool) (M : Rest → Val) (r : Res)
      → Asked (hinted hint p) asked M → exec (hinted hint p) M ≡ gives r → (q : Rest) × (asked q ≡ true) × (inner_rest q (M q) ≡ false)
  unfolding asked_with with_hint
  outer_hinted inner inner_rest vectors same p sees asked M r a e =
      go (outer_asked inner p (asked_with hint asked) (with_hint hint M) r sees (asked_hinted p asked M a) (sym (exec_hinted hint p M) ∙ e))
    where
      Outer : Type 0
      Outer = (q : Rest) × (asked q ≡ true) × (inner_rest q (M q) ≡ false)

      at : (o : Obj) (z : Val ⊎ Rest) → hint o ≡ z → asked_with hint asked o ≡ true → inner o (with_hint hint M o) ≡ false → Outer
      at o (inl u) h b i = absurd (not_both (vectors o u h) (rw (h, with_hint) at i))
      at o (inr q) h b i = (q, rw (h, asked_with) at b, same o q h (M q) ∙ rw (h, with_hint) at i)

      go : (o : Obj) × (asked_with hint asked o ≡ true) × (inner o (with_hint hint M o) ≡ false) → Outer
      go (o, b, i) = at o (hint o) refl b i
