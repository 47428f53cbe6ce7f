-- Laws of reason 3 over the lent list.
use Rattle.std.proofs.Math.Path.{◌≡◌, refl, sym}
use Rattle.std.proofs.Common.{◌∙◌, arith, leb-true, leb-false, eq-eqb, ne_eqb, eqb-true}
use Rattle.std.specs.Prelude.{Bool, cond, ◌&&◌, ℕ, ◌<◌, leb}
use Rattle.std.proofs.Math.Bool.{true, false}
use mathlib.Core.List.{List, [], ◌∷◌, ◌++◌}
use Rattle.std.proofs.Math.Option.{Option, none, some}
use Rattle.std.proofs.Math.Decide.{dec_le, ℕ_discrete}
use Rattle.std.proofs.Math.Dec.{eqb}
use Rattle.std.proofs.lemmas.Bool.{eqb-false}
use Rattle.base.specs.Test.{yes?, and_both, one_if}
use Rattle.base.proofs.Laws.Test.{of_yes, of_no}
use Rattle.nodes.specs.declared.node.Node.{Node}
use Rattle.nodes.specs.Place.{rises}
use Rattle.nodes.specs.Node.{made}
use Rattle.nodes.proofs.Laws.Node.{keys_made}
use Rattle.operations.specs.Object.{Obj, meta, node, flag, Val, root, body, taken, flags, Writes, hit, written_value}
use Rattle.operations.specs.Operation.{fits?, all_fit?}
use Rattle.client.specs.Record.{number, object_in_store, record_of, single, metadata}
use Rattle.client.specs.Lent.{Entry}
use Rattle.client.specs.Answered.{put_entry, entered}
use Rattle.walk.specs.Ask.{write_of}
use Rattle.walk.specs.Laws.Write.{hit_is, hit_same}
use Rattle.change.specs.Fit.{record_fits, entries_fit}

pub fit_append : (l k : List Entry) → entries_fit (l ++ k) ≡ (entries_fit l && entries_fit k)
unfolding entries_fit
fit_append [] k = refl
fit_append (e ∷ l) k = go (record_fits e.1) (fit_append l k)
  where
    go : (b : Bool) → entries_fit (l ++ k) ≡ (entries_fit l && entries_fit k) → (b && entries_fit (l ++ k)) ≡ ((b && entries_fit l) && entries_fit k)
    go true e = e
    go false e = refl

at_most_four : (l : ℕ) → leb l 4 ≡ yes? (dec_le l 4)
at_most_four l = go (leb l 4) refl
  where
    go : (b : Bool) → leb l 4 ≡ b → leb l 4 ≡ yes? (dec_le l 4)
    go true e = e ∙ sym (of_yes (dec_le l 4) (leb-true l 4 e))
    go false e = let h : 4 < l = leb-false l 4 e in e ∙ sym (of_no (dec_le l 4) (λ g. absurd (omega arith)))

made_level : (k l : ℕ) (ks vs : List ℕ) → (made k l 0 ks vs).level ≡ l
unfolding made
made_level k l ks vs = refl

made_fits : (k l : ℕ) (ks vs : List ℕ) → record_fits (made k l 0 ks vs) ≡ (rises ks && yes? (dec_le l 4))
unfolding record_fits
made_fits k l ks vs = rw (keys_made k l 0 ks vs, made_level k l ks vs, at_most_four l)

value_fits : (v : Val) → record_fits (record_of 0 v) ≡ fits? v
unfolding record_of single metadata
value_fits (root r st) = made_fits 0 0 [] (r ∷ st ∷ [])
value_fits (body k l ks vs) = made_fits k l ks vs
value_fits (taken b) = made_fits 0 0 [] (one_if b ∷ [])
value_fits (flags fs) = made_fits 0 0 [] []

-- ---- the record of a number
abbrev pub entry_of : List Entry → ℕ → Option Node
entry_of [] k = none
entry_of (e ∷ l) k = cond (eqb e.0 k) (some e.1) (entry_of l k)

entry_put : (k : ℕ) (r : Node) (l : List Entry) → entry_of (put_entry (k, r) l) k ≡ some r
unfolding put_entry
entry_put k r [] = rw (eq-eqb k k refl)
entry_put k r (f ∷ l) = go (eqb f.0 k) refl (entry_put k r l)
  where
    go : (b : Bool) → eqb f.0 k ≡ b → entry_of (put_entry (k, r) l) k ≡ some r → entry_of (put_entry (k, r) (f ∷ l)) k ≡ some r
    go true e h = rw (put_entry, e, eq-eqb k k refl)
    go false e h = rw (put_entry, e, e) h

entry_other : (k y : ℕ) (r : Node) (l : List Entry) → (k ≡ y → ⊥) → entry_of (put_entry (k, r) l) y ≡ entry_of l y
unfolding put_entry
entry_other k y r [] d = rw (ne_eqb k y d)
entry_other k y r (f ∷ l) d = go (eqb f.0 k) refl (entry_other k y r l d)
  where
    go : (b : Bool) → eqb f.0 k ≡ b → entry_of (put_entry (k, r) l) y ≡ entry_of l y → entry_of (put_entry (k, r) (f ∷ l)) y ≡ entry_of (f ∷ l) y
    go true e h = let g : f.0 ≡ k = eqb-true f.0 k e in rw (put_entry, e, ne_eqb k y d, ne_eqb f.0 y (λ q. d (sym g ∙ q)))
    go false e h = rw (put_entry, e, h)

-- each number once
unfoldable Once : List Entry → Type 0
Once [] = Unit {0}
Once (e ∷ l) = (entry_of l e.0 ≡ none) × Once l

once_put : (k : ℕ) (r : Node) (l : List Entry) → Once l → Once (put_entry (k, r) l)
unfolding put_entry Once
once_put k r [] h = (refl, tt)
once_put k r (f ∷ l) h = go (eqb f.0 k) refl (once_put k r l h.1)
  where
    go : (b : Bool) → eqb f.0 k ≡ b → Once (put_entry (k, r) l) → Once (put_entry (k, r) (f ∷ l))
    go true e t = rw (put_entry, e, ← eqb-true f.0 k e) h
    go false e t = rw (put_entry, e) (entry_other k f.0 r l (λ q. eqb-false f.0 k e (sym q)) ∙ h.0, t)

once_entered : (w : Writes) → Once (entered w)
unfolding Once entered
once_entered [] = tt
once_entered (e ∷ w) = once_put (number e.0) (record_of 0 e.1) (entered w) (once_entered w)

-- all entries fit where each number's does, and the other way round
each_fits : (l : List Entry) (k : ℕ) (r : Node) → entries_fit l ≡ true → entry_of l k ≡ some r → record_fits r ≡ true
unfolding entries_fit
each_fits [] k r h e = let z : ◌≡◌ {A = ℕ} 0 1 = cc in absurd (omega arith)
each_fits (f ∷ l) k r h e = go (eqb f.0 k) refl (and_both (record_fits f.1) (entries_fit l) h) (each_fits l k r)
  where
    go : (b : Bool) → eqb f.0 k ≡ b → (record_fits f.1 ≡ true) × (entries_fit l ≡ true) → (entries_fit l ≡ true → entry_of l k ≡ some r → record_fits r ≡ true) → record_fits r ≡ true
    go true p t ih = let q : some f.1 ≡ some r = rw p at e in let s : f.1 ≡ r = cc in rw (← s) t.0
    go false p t ih = ih t.1 (rw p at e)

all_fits : (l : List Entry) → Once l → ((k : ℕ) (r : Node) → entry_of l k ≡ some r → record_fits r ≡ true) → entries_fit l ≡ true
unfolding entries_fit Once
all_fits [] o h = refl
all_fits (f ∷ l) o h = rw (h f.0 f.1 (rw (eq-eqb f.0 f.0 refl)), all_fits l o.1 (λ k r e. h k r (later k r e (eqb f.0 k) refl)))
  where
    later : (k : ℕ) (r : Node) → entry_of l k ≡ some r → (b : Bool) → eqb f.0 k ≡ b → entry_of (f ∷ l) k ≡ some r
    later k r e true p = let q : none ≡ some r = sym o.0 ∙ rw (eqb-true f.0 k p) e in let z : ◌≡◌ {A = ℕ} 0 1 = cc in absurd (omega arith)
    later k r e false p = rw p e

-- ---- the writes by object
-- all written objects are in the store
abbrev Stored : ℕ → Writes → Type 0
Stored slots w = (o : Obj) → object_in_store slots o ≡ false → write_of w o ≡ none

hit_self : (o : Obj) → hit o o ≡ true
hit_self meta = refl
hit_self (node n) = of_yes (ℕ_discrete n n) refl
hit_self (flag n) = of_yes (ℕ_discrete n n) refl

none_some : {A : Type 0} (v : Val) → none ≡ some v → A
none_some v e = let z : ◌≡◌ {A = ℕ} 0 1 = cc in absurd (omega arith)

newest : (e : Obj × Val) (w : Writes) → write_of (e ∷ w) e.0 ≡ some e.1
newest e w = rw (hit_self e.0)

stored_head : (slots : ℕ) (e : Obj × Val) (w : Writes) → Stored slots (e ∷ w) → object_in_store slots e.0 ≡ true
stored_head slots e w h = go (object_in_store slots e.0) refl
  where
    go : (b : Bool) → object_in_store slots e.0 ≡ b → object_in_store slots e.0 ≡ true
    go true p = p
    go false p = none_some e.1 (sym (h e.0 p) ∙ newest e w)

stored_tail : (slots : ℕ) (e : Obj × Val) (w : Writes) → Stored slots (e ∷ w) → Stored slots w
stored_tail slots e w h o p = go (hit e.0 o) refl
  where
    go : (b : Bool) → hit e.0 o ≡ b → write_of w o ≡ none
    go true q = none_some e.1 (sym (h o p) ∙ rw q)
    go false q = rw q at (h o p)

value_is : (w : Writes) (o : Obj) (v : Val) → write_of w o ≡ some v → written_value w o ≡ v
value_is [] o v h = none_some v h
value_is (e ∷ w) o v h = go (hit e.0 o) refl (value_is w o v)
  where
    go : (b : Bool) → hit e.0 o ≡ b → (write_of w o ≡ some v → written_value w o ≡ v) → written_value (e ∷ w) o ≡ v
    go true p ih = let q : some e.1 ≡ some v = rw p at h in let r : e.1 ≡ v = cc in rw p r
    go false p ih = rw p (ih (rw p at h))

each_written : (all w : Writes) → all_fit? all w ≡ true → (o : Obj) (v : Val) → write_of w o ≡ some v → fits? (written_value all o) ≡ true
each_written all [] h o v p = none_some v p
each_written all (e ∷ w) h o v p = go (hit e.0 o) refl (and_both (fits? (written_value all e.0)) (all_fit? all w) h) (each_written all w)
  where
    go : (b : Bool) → hit e.0 o ≡ b → (fits? (written_value all e.0) ≡ true) × (all_fit? all w ≡ true)
        → (all_fit? all w ≡ true → (o : Obj) (v : Val) → write_of w o ≡ some v → fits? (written_value all o) ≡ true) → fits? (written_value all o) ≡ true
    go true q t ih = rw (← hit_same e.0 o q) t.0
    go false q t ih = ih t.1 o v (rw q at p)

all_written : (all w : Writes) → ((o : Obj) (v : Val) → write_of w o ≡ some v → fits? (written_value all o) ≡ true) → all_fit? all w ≡ true
all_written all [] h = refl
all_written all (e ∷ w) h = rw (h e.0 e.1 (newest e w), all_written all w (λ o v p. later o v p (hit e.0 o) refl))
  where
    later : (o : Obj) (v : Val) → write_of w o ≡ some v → (b : Bool) → hit e.0 o ≡ b → fits? (written_value all o) ≡ true
    later o v p true q = h o e.1 (rw q)
    later o v p false q = h o v (rw q p)

-- the record of an object, by its number
abbrev as_record : Option Val → Option Node
as_record none = none
as_record (some v) = some (record_of 0 v)

module _ (slots : ℕ) where
  entry_is : (w : Writes) → Stored slots w → (o : Obj) → object_in_store slots o ≡ true → entry_of (entered w) (number o) ≡ as_record (write_of w o)
  unfolding entered
  entry_is [] s o t = refl
  entry_is (e ∷ w) s o t = go (hit e.0 o) refl (entry_is w (stored_tail slots e w s) o t)
    where
      go : (b : Bool) → hit e.0 o ≡ b → entry_of (entered w) (number o) ≡ as_record (write_of w o) → entry_of (entered (e ∷ w)) (number o) ≡ as_record (write_of (e ∷ w) o)
      go true p ih = rw (p, ← hit_same e.0 o p) (entry_put (number e.0) (record_of 0 e.1) (entered w))
      go false p ih =
          let d : eqb (number e.0) (number o) ≡ false = sym (hit_is slots e.0 o (stored_head slots e w s) t) ∙ p in
          rw p (entry_other (number e.0) (number o) (record_of 0 e.1) (entered w) (eqb-false (number e.0) (number o) d) ∙ ih)

  -- an entry is of a written object
  pub record Owner (w : Writes) (k : ℕ) : Type 0 where
    pub owner : Obj
    pub named : number owner ≡ k
    pub there : object_in_store slots owner ≡ true

  owned : (w : Writes) → Stored slots w → (k : ℕ) (r : Node) → entry_of (entered w) k ≡ some r → Owner w k
  unfolding entered
  owned [] s k r p = let c : ◌≡◌ {A = ℕ} 0 1 = cc in absurd (omega arith)
  owned (e ∷ w) s k r p = go (ℕ_discrete (number e.0) k) (owned w (stored_tail slots e w s) k r)
    where
      go : Dec (number e.0 ≡ k) → (entry_of (entered w) k ≡ some r → Owner w k) → Owner (e ∷ w) k
      go (yes q) ih = record { owner = e.0; named = q; there = stored_head slots e w s }
      go (no d) ih = let o = ih (sym (entry_other (number e.0) k (record_of 0 e.1) (entered w) d) ∙ p) in record { owner = o.owner; named = o.named; there = o.there }

  pub all_fit_entries : (w : Writes) → Stored slots w → all_fit? w w ≡ entries_fit (entered w)
  all_fit_entries w s = go (entries_fit (entered w)) refl (all_fit? w w) refl
    where
      fit_value : entries_fit (entered w) ≡ true → (o : Obj) (v : Val) → write_of w o ≡ some v → (b : Bool) → object_in_store slots o ≡ b → fits? (written_value w o) ≡ true
      fit_value h o v p true t =
          rw (value_is w o v p) (sym (value_fits v) ∙ each_fits (entered w) (number o) (record_of 0 v) h (entry_is w s o t ∙ rw p))
      fit_value h o v p false t = none_some v (sym (s o t) ∙ p)

      of_owner : all_fit? w w ≡ true → (k : ℕ) (r : Node) → entry_of (entered w) k ≡ some r → (o : Owner w k) → (f : Option Val) → write_of w o.owner ≡ f → record_fits r ≡ true
      of_owner h k r p o none q =
          let e : none ≡ some r = sym (entry_is w s o.owner o.there ∙ rw q) ∙ rw o.named p in
          let c : ◌≡◌ {A = ℕ} 0 1 = cc in absurd (omega arith)
      of_owner h k r p o (some v) q =
          let e : some (record_of 0 v) ≡ some r = sym (entry_is w s o.owner o.there ∙ rw q) ∙ rw o.named p in
          let d : record_of 0 v ≡ r = cc in
          rw (← d, value_fits v, ← value_is w o.owner v q) (each_written w w h o.owner v q)

      go : (a : Bool) → entries_fit (entered w) ≡ a → (b : Bool) → all_fit? w w ≡ b → all_fit? w w ≡ entries_fit (entered w)
      go true p b q = rw p (all_written w w (λ o v e. fit_value p o v e (object_in_store slots o) refl))
      go false p true q =
          let t : entries_fit (entered w) ≡ true = all_fits (entered w) (once_entered w) (λ k r e. let o = owned w s k r e in of_owner q k r e o (write_of w o.owner) refl) in
          q ∙ sym t
      go false p false q = q ∙ sym p
