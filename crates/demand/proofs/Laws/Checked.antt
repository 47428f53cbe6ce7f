-- What a prepare finds in order the machine's checks find in order.
use Rattle.std.specs.Prelude.{◌≡◌, refl, Bool, true, false, cond, ◌&&◌, ◌||◌, not, List, [], ◌∷◌, ◌++◌, map, ◌⊎◌, eqb, leb}
use Rattle.std.proofs.Common.{ap, sym, ◌∙◌, subst, inl, inr, arith, eqb-true}
use Rattle.std.proofs.Math.Option.{Option, none, some, none-ne-some, some-ne-none, some-injective}
use Prim.Native.Nat.{ℕ, zero, suc, ◌≤◌, ◌<◌, Fin}
use Rattle.std.proofs.Math.Decide.{ℕ_discrete, Fin-discrete}
use Rattle.std.proofs.lemmas.Bool.{eqb-false}
use Rattle.base.specs.Test.{yes?}
use Rattle.base.proofs.Laws.Test.{of_yes, one_if_is}
use Rattle.layout.specs.Space.{tab}
use Rattle.nodes.specs.declared.node.Node.{Node}
use Rattle.operations.specs.Object.{Obj, meta, node, flag, taken}
use Rattle.operations.proofs.Laws.Object.{ValDiscrete, inner}
use Rattle.protocol.specs.Lists.{Among}
use Rattle.server.specs.declared.check.Finding.TheVariants.{Same, Differs, Busy, Unfit}
use Rattle.server.specs.declared.lock.Use.{Use}
use Rattle.nodes.specs.declared.object.Object.{Object}
use Rattle.server.specs.declared.place.Place.{Place}
use Rattle.client.specs.declared.part.Set.TheVariants.{Reads, Writes}
use Rattle.client.specs.Layout.{ClientWord}
use Rattle.nodes.specs.Stored.{node_of}
use Rattle.client.specs.Record.{number, first_slot, value_of}
use Rattle.client.specs.Sets.{record_at}
use Rattle.steps.specs.Steps.{node_at}
use Rattle.demand.proofs.Laws.Store.{home}
use Rattle.demand.proofs.Laws.Numbers.{by_object, by_number_of, server_object}
use Rattle.demand.proofs.Laws.Shows.{T, InStore, ServerShown}
use Rattle.demand.proofs.Laws.Locking.{asked, held, read_same}
use Rattle.protocol.specs.Machine as P
use Rattle.protocol.specs.Moves as Mv
use Rattle.server.specs.Check as Chk
use Rattle.client.specs.Items as I
use Rattle.steps.specs.Uses as U

-- ---- findings: where none decides, none has a reason
some_reason : (fs : List (ℕ × ℕ)) (g : ℕ × ℕ) → U.least fs ≡ some g → ¬ (g.1 ≡ 0)
unfolding U.least
some_reason [] g e = absurd (none-ne-some g e)
some_reason (f ∷ fs) g e = go (eqb f.1 0) refl (U.least fs) refl e (some_reason fs)
  where
    go : (b : Bool) → eqb f.1 0 ≡ b → (z : Option (ℕ × ℕ)) → U.least fs ≡ z → cond b z (U.lesser f z) ≡ some g
        → ((g : ℕ × ℕ) → U.least fs ≡ some g → ¬ (g.1 ≡ 0)) → ¬ (g.1 ≡ 0)
    go true q z l e rec = rec g (l ∙ e)
    go false q none l e rec = subst (λ (h : ℕ × ℕ). ¬ (h.1 ≡ 0)) (some-injective f g e) (eqb-false f.1 0 q)
    go false q (some h) l e rec = pick (leb f.0 h.0) e
      where
        pick : (b : Bool) → cond b (some f) (some h) ≡ some g → ¬ (g.1 ≡ 0)
        pick true e = subst (λ (h : ℕ × ℕ). ¬ (h.1 ≡ 0)) (some-injective f g e) (eqb-false f.1 0 q)
        pick false e = rec g (l ∙ e)

none_all : (fs : List (ℕ × ℕ)) → U.least fs ≡ none → (f : ℕ × ℕ) → Among f fs → f.1 ≡ 0
unfolding U.least Among
none_all [] e f a = absurd a
none_all (g ∷ fs) e f a = go (eqb g.1 0) refl e a (none_all fs)
  where
    some_lesser : (z : Option (ℕ × ℕ)) → U.lesser g z ≡ none → ⊥
    some_lesser none q = some-ne-none g q
    some_lesser (some h) q = pick (leb g.0 h.0) q
      where
        pick : (b : Bool) → cond b (some g) (some h) ≡ none → ⊥
        pick true q = some-ne-none g q
        pick false q = some-ne-none h q

    go : (b : Bool) → eqb g.1 0 ≡ b → cond b (U.least fs) (U.lesser g (U.least fs)) ≡ none → (f ≡ g) ⊎ Among f fs
        → (U.least fs ≡ none → (f : ℕ × ℕ) → Among f fs → f.1 ≡ 0) → f.1 ≡ 0
    go true q e (inl s) rec = ap (λ (h : ℕ × ℕ). h.1) s ∙ eqb-true g.1 0 q
    go true q e (inr a) rec = rec e f a
    go false q e a rec = absurd (some_lesser (U.least fs) e)

least_none : (fs : List (ℕ × ℕ)) → U.deciding fs ≡ 0 → U.least fs ≡ none
unfolding U.deciding
least_none fs h = go (U.least fs) refl
  where
    go : (z : Option (ℕ × ℕ)) → U.least fs ≡ z → U.least fs ≡ none
    go none e = e
    go (some g) e = absurd (some_reason fs g e (sym (ap U.reason_of e) ∙ h))

among_end : {A : Type 0} (l : List A) (a : A) → Among a (l ++ (a ∷ []))
unfolding Among
among_end [] a = inl refl
among_end (x ∷ l) a = inr (among_end l a)

pub among_more : {A : Type 0} (l q : List A) (a : A) → Among a l → Among a (l ++ q)
unfolding Among
among_more [] q a h = absurd h
among_more (x ∷ l) q a (inl e) = inl e
among_more (x ∷ l) q a (inr h) = inr (among_more l q a h)

pub among_later : {A : Type 0} (l q : List A) (a : A) → Among a q → Among a (l ++ q)
unfolding Among
among_later [] q a h = h
among_later (x ∷ l) q a h = inr (among_later l q a h)

pub among_each : {A : Type 0} (n : ℕ) (f : ℕ → A) (i : ℕ) → i < n → Among (f i) (U.each n f)
unfolding U.each
among_each zero f i l = absurd (omega arith)
among_each {A} (suc n) f i l = go (ℕ_discrete i n) (λ q. among_each n f i q)
  where
    go : Dec (i ≡ n) → (i < n → Among (f i) (U.each n f)) → Among (f i) (U.each n f ++ (f n ∷ []))
    go (yes e) rec = subst (λ (x : ℕ). Among (f x) (U.each n f ++ (f n ∷ []))) (sym e) (among_end (U.each n f) (f n))
    go (no d) rec = among_more (U.each n f) (f n ∷ []) (f i) (rec (omega arith))

pub among_image : {A B : Type 0} (g : A → B) (l : List A) (a : A) → Among a l → Among (g a) (map g l)
unfolding Among
among_image g [] a h = h
among_image g (x ∷ l) a (inl e) = inl (ap g e)
among_image g (x ∷ l) a (inr h) = inr (among_image g l a h)

-- where nothing is found, nothing is found of each
pub none_found : (g : U.Item → ℕ × ℕ) (l : List U.Item) → U.deciding (map g l) ≡ 0 → (x : U.Item) → Among x l → (g x).1 ≡ 0
none_found g l h x i = none_all (map g l) (least_none (map g l) h) (g x) (among_image g l x i)

pub all_found : (g : U.Item → ℕ × ℕ) (n : ℕ) (f : ℕ → U.Item) → U.deciding (map g (U.each n f)) ≡ 0 → (i : ℕ) → i < n → (g (f i)).1 ≡ 0
all_found g n f h i l = none_found g (U.each n f) h (f i) (among_each n f i l)

-- ---- one finding
pub found_same : (o : Object) (b : Bool) (mark c : ℕ) (u : Use) (p : Place → ℕ) → Chk.finding_number (Chk.checked o b mark c u p) ≡ 0
    → (Chk.held o c u p ≡ false) × (Chk.standing o b p ≡ mark)
unfolding Chk.checked Chk.mark_finding
found_same o b mark c u p h =
    go (Chk.held o c u p) refl (Chk.mark_fits o (Chk.standing o b p) && Chk.mark_fits o mark) (eqb (Chk.standing o b p) mark) refl h
  where
    go : (x : Bool) → Chk.held o c u p ≡ x → (f y : Bool) → eqb (Chk.standing o b p) mark ≡ y → Chk.finding_number (cond x Busy (cond f (cond y Same Differs) Unfit)) ≡ 0
        → (Chk.held o c u p ≡ false) × (Chk.standing o b p ≡ mark)
    go true e f y q h = absurd (omega (arith, h))
    go false e false y q h = absurd (omega (arith, h))
    go false e true true q h = (e, eqb-true (Chk.standing o b p) mark q)
    go false e true false q h = absurd (omega (arith, h))

-- ---- the machine's check
guarded : (b x : Bool) → (b ≡ true → x ≡ true) → (not b || x) ≡ true
guarded true x h = h refl
guarded false x h = refl

module _ (k j slots : ℕ) (al : slots ≤ 1024) (u : ClientWord → ℕ) (y : P.Slot (T k j slots)) (M : P.Machine (T k j slots)) (s : Fin 8) (low : ℕ) (el : y.lowest.0 ≡ low) (p : Place → ℕ) (S : ServerShown k j slots p s (M.value s) (M.version s) (M.table s) (M.lock s)) where
  -- the mark of an object
  unfoldable pub mark_of : (o : Obj) (i : ℕ) → ℕ
  mark_of meta i = (record_at u Reads i).version
  mark_of (node n) i = (record_at u Reads i).version
  mark_of (flag n) i = first_slot (record_at u Reads i)

  pub mark_is : (o : Obj) (i : ℕ) (hi : InStore k j slots o) → (U.item_of u (number o) (record_at u Reads i)).mark ≡ mark_of o i
  unfolding U.item_of mark_of
  mark_is o i hi = by_number_of slots al o hi r.version (λ n. r.version) (λ n. first_slot r) ∙ same o
    where
      r : Node
      r = record_at u Reads i

      same : (o : Obj) → by_object o r.version (λ n. r.version) (λ n. first_slot r) ≡ mark_of o i
      same meta = refl
      same (node n) = refl
      same (flag n) = refl

  pub check_passes : (o : Obj) (i : ℕ) (hi : InStore k j slots o)
      → (U.checked_at low s.0 (asked k j slots al u y s low el o i hi) ≡ true → Chk.standing (server_object o) (inner o (value_of o (record_at u Reads i))) p ≡ mark_of o i)
      → Mv.check (T k j slots) M y.lowest s (held k j slots al u y s low el o i hi) ≡ true
  unfolding Chk.standing Chk.mark_place Chk.mark_in mark_of node_at node_of tab
  check_passes o i hi f = go o hi (λ e. f (read_same k j slots al u y s low el o i hi ∙ e))
    where
      r : Node
      r = record_at u Reads i

      Passes : Obj → Type 0
      Passes o = (hi : InStore k j slots o)
          → (Mv.to_read (T k j slots) y.lowest s (held k j slots al u y s low el o i hi) ≡ true → Chk.standing (server_object o) (inner o (value_of o r)) p ≡ mark_of o i)
          → Mv.check (T k j slots) M y.lowest s (held k j slots al u y s low el o i hi) ≡ true

      go : (o : Obj) → Passes o
      go meta hi f =
          guarded _ _ (λ b. of_yes (ℕ_discrete (M.table s meta) r.version) (S.table_as meta hi refl ∙ f b))
      go (node n) hi f = by_kind (eqb r.kind 2) refl f
        where
          W : Bool
          W = I.has u Writes (number (node n))

          by_kind : (b : Bool) → eqb r.kind 2 ≡ b
              → (cond b (yes? (Fin-discrete 8 y.lowest s) || W) (yes? (Fin-discrete 8 s (home k j slots (node n)))) ≡ true
              → Chk.standing (server_object (node n)) b p ≡ r.version)
              → cond b (not (yes? (Fin-discrete 8 y.lowest s) || W) || yes? (ℕ_discrete (M.table s (node n)) r.version))
              (not (yes? (Fin-discrete 8 s (home k j slots (node n)))) || yes? (ℕ_discrete (M.version s (node n)) r.version)) ≡ true
          by_kind true e f = guarded _ _ (λ b. of_yes (ℕ_discrete (M.table s (node n)) r.version) (S.table_as (node n) hi refl ∙ f b))
          by_kind false e f = guarded _ _ (λ b. of_yes (ℕ_discrete (M.version s (node n)) r.version) (S.version_as (node n) hi b ∙ f b))
      go (flag n) hi f =
          guarded _ _ (λ b. of_yes (ValDiscrete (M.value s (flag n)) (taken (eqb (first_slot r) 1)))
          (S.value_as (flag n) hi b ∙ ap taken (sym (one_if_is _) ∙ ap (λ (x : ℕ). eqb x 1) (f b))))
