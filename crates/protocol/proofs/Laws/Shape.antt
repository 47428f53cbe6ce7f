-- How a plan is shown, by its shape, to meet what a Setting demands of it: `asks_outer`, `writes_asked` and `servers_stay`.
use Rattle.std.specs.Prelude.{◌≡◌, Bool, ◌||◌, ◌⊎◌}
use Rattle.std.proofs.Math.Path.{refl, subst}
use Rattle.std.proofs.Common.{ap, sym, inl, inr}
use Rattle.std.proofs.Math.Bool.{true, false, not}
use Rattle.std.proofs.lemmas.Bool.{false≢true}
use mathlib.Core.HLevel.{Discrete}
use mathlib.Core.List.{List, [], ◌∷◌}
use Rattle.base.proofs.Laws.Test.{or_cases}
use Rattle.base.specs.Test.{yes?}
use Rattle.plans.specs.Plan.{Plan, ask, done, fail, Out, gives, fails, exec, Asked}
use Rattle.plans.specs.Walk.{Every}
use Rattle.protocol.specs.Lists.{Among}
use Rattle.protocol.specs.Writes.{writes?, latest}

fails≢gives : {Res Why : Type 0} {y : Why} {r : Res} → ◌≡◌ {A = Out Res Why} (fails y) (gives r) → ⊥
fails≢gives {Res = Res} {Why = Why} e = false≢true (ap gives? e)
  where
    gives? : Out Res Why → Bool
    gives? (gives r) = true
    gives? (fails y) = false

module _ {Obj Val Res Why : Type 0} (inner : Obj → Val → Bool) where
  -- the plan has a result only where it has asked for an outer object; b: it has done so before
  unfoldable pub SeesOuter : Plan Obj Val Res Why → Bool → Type 0
  SeesOuter (ask o k) b = (v : Val) → SeesOuter (k v) (b || not (inner o v))
  SeesOuter (done r) b = b ≡ true
  SeesOuter (fail y) b = Unit {0}

  -- once it has, the rest does not matter
  pub sees_after : (p : Plan Obj Val Res Why) → SeesOuter p true
  unfolding SeesOuter
  sees_after (ask o k) = λ v. sees_after (k v)
  sees_after (done r) = refl
  sees_after (fail y) = tt

  outer_among : (p : Plan Obj Val Res Why) (b : Bool) (asked : Obj → Bool) (M : Obj → Val) (r : Res) → SeesOuter p b → Asked p asked M
      → exec p M ≡ gives r → (b ≡ true) ⊎ ((o : Obj) × (asked o ≡ true) × (inner o (M o) ≡ false))
  unfolding SeesOuter Asked exec
  outer_among (ask o k) b asked M r h a e = go (outer_among (k (M o)) (b || not (inner o (M o))) asked M r (h (M o)) a.1 e)
    where
      outer : (i : Bool) → not i ≡ true → i ≡ false
      outer true n = absurd (false≢true n)
      outer false n = refl

      here : (b ≡ true) ⊎ (not (inner o (M o)) ≡ true) → (b ≡ true) ⊎ ((q : Obj) × (asked q ≡ true) × (inner q (M q) ≡ false))
      here (inl t) = inl t
      here (inr n) = inr (o, a.0, outer (inner o (M o)) n)

      go : ((b || not (inner o (M o))) ≡ true) ⊎ ((q : Obj) × (asked q ≡ true) × (inner q (M q) ≡ false))
          → (b ≡ true) ⊎ ((q : Obj) × (asked q ≡ true) × (inner q (M q) ≡ false))
      go (inl t) = here (or_cases b (not (inner o (M o))) t)
      go (inr w) = inr w
  outer_among (done s) b asked M r h a e = inl h
  outer_among (fail y) b asked M r h a e = absurd (fails≢gives e)

  pub outer_asked : (p : Plan Obj Val Res Why) (asked : Obj → Bool) (M : Obj → Val) (r : Res) → SeesOuter p false → Asked p asked M
      → exec p M ≡ gives r → (o : Obj) × (asked o ≡ true) × (inner o (M o) ≡ false)
  outer_asked p asked M r h a e = go (outer_among p false asked M r h a e)
    where
      go : (false ≡ true) ⊎ ((o : Obj) × (asked o ≡ true) × (inner o (M o) ≡ false)) → (o : Obj) × (asked o ≡ true) × (inner o (M o) ≡ false)
      go (inl t) = absurd (false≢true t)
      go (inr w) = w

among_asked : {Obj : Type 0} (asked : Obj → Bool) (os : List Obj) → Every (λ o. asked o ≡ true) os → (o : Obj) → Among o os → asked o ≡ true
unfolding Every Among
among_asked asked [] h o i = absurd i
among_asked asked (q ∷ os) h o (inl e) = subst (λ q. asked q ≡ true) (sym e) h.0
among_asked asked (q ∷ os) h o (inr i) = among_asked asked os h.1 o i

writes_among : {Obj Val : Type 0} (eq_obj : Discrete Obj) (ws : List (Obj × Val)) (os : List Obj) → Every (λ w. Among w.0 os) ws → (o : Obj) → writes? eq_obj ws o ≡ true → Among o os
unfolding Every writes?
writes_among eq_obj [] os h o e = absurd (false≢true e)
writes_among eq_obj (w ∷ ws) os h o e = go (eq_obj o w.0) e (writes_among eq_obj ws os h.1 o)
  where
    go : (d : Dec (o ≡ w.0)) → (yes? d || writes? eq_obj ws o) ≡ true → (writes? eq_obj ws o ≡ true → Among o os) → Among o os
    go (yes p) e rec = subst (λ o. Among o os) (sym p) h.0
    go (no q) e rec = rec e

module _ {Obj Val Res Why : Type 0} (eq_obj : Discrete Obj) (writes : Res → List (Obj × Val)) where
  -- the plan writes only what it has asked for; os: what it has asked for before
  unfoldable pub WritesAsked : Plan Obj Val Res Why → List Obj → Type 0
  WritesAsked (ask o k) os = (v : Val) → WritesAsked (k v) (o ∷ os)
  WritesAsked (done r) os = Every (λ w. Among w.0 os) (writes r)
  WritesAsked (fail y) os = Unit {0}

  result : Res → Out Res Why → Res
  result r (gives q) = q
  result r (fails y) = r

  written_among : (p : Plan Obj Val Res Why) (os : List Obj) (asked : Obj → Bool) (M : Obj → Val) (r : Res) → WritesAsked p os
      → Every (λ o. asked o ≡ true) os → Asked p asked M → exec p M ≡ gives r → (o : Obj) → writes? eq_obj (writes r) o ≡ true → asked o ≡ true
  unfolding WritesAsked Every Asked exec result
  written_among (ask q k) os asked M r h old a e o w = written_among (k (M q)) (q ∷ os) asked M r (h (M q)) (a.0, old) a.1 e o w
  written_among (done s) os asked M r h old a e o w =
      among_asked asked os old o (writes_among eq_obj (writes r) os (subst (λ r. Every (λ w. Among w.0 os) (writes r)) (ap (result r) e) h) o w)
  written_among (fail y) os asked M r h old a e o w = absurd (fails≢gives e)

  pub written_asked : (p : Plan Obj Val Res Why) (asked : Obj → Bool) (M : Obj → Val) (r : Res) → WritesAsked p [] → Asked p asked M
      → exec p M ≡ gives r → (o : Obj) → writes? eq_obj (writes r) o ≡ true → asked o ≡ true
  unfolding Every
  written_asked p asked M r h = written_among p [] asked M r h tt

-- A plan that has read the metadata as v leaves the servers as they are: so `ask meta q` meets `servers_stay`, if each q v does this.
module _ {Obj Val Res Why Server : Type 0} (eq_obj : Discrete Obj) (writes : Res → List (Obj × Val)) (meta : Obj) (present : Val → Server → Bool) where
  unfoldable pub Stays : Val → Plan Obj Val Res Why → Type 0
  Stays v (ask o k) = (u : Val) → Stays v (k u)
  Stays v (done r) = (s : Server) → present (latest eq_obj (writes r) meta v) s ≡ present v s
  Stays v (fail y) = Unit {0}

  pub servers_left : (v : Val) (p : Plan Obj Val Res Why) (M : Obj → Val) (r : Res) → Stays v p → exec p M ≡ gives r
      → (s : Server) → present (latest eq_obj (writes r) meta v) s ≡ present v s
  unfolding Stays exec
  servers_left v (ask o k) M r h e = servers_left v (k (M o)) M r (h (M o)) e
  servers_left v (done q) M r h e = subst (λ r. (s : Server) → present (latest eq_obj (writes r) meta v) s ≡ present v s) (ap (given q) e) h
    where
      given : Res → Out Res Why → Res
      given q (gives r) = r
      given q (fails y) = q
  servers_left v (fail y) M r h e = absurd (fails≢gives e)
