-- WHERE A TRANSACTION'S OBJECTS LIVE: the homes of the leaves, free nodes and flags that it has read are there by the metadata that it has read. Or it is
-- lost: it has read as inner a node whose home isn't there, so what it has read was never one tree, and it will not be decided.
use Rattle.std.specs.Prelude.{◌≡◌, true, false, List, [], ◌∷◌, map, ◌⊎◌, ℕ}
use Rattle.std.proofs.Math.Path.{refl}
use Rattle.std.proofs.Common.{ap, ap₂, sym, ◌∙◌, subst, inl, inr}
use Rattle.std.proofs.lemmas.Bool.{false≢true}
use Rattle.std.proofs.Math.Option
use Rattle.std.proofs.Math.Option.{Option, none, some, none-ne-some, some-injective}
use Rattle.operations.specs.Object.{Obj, meta, Val, states_of, Writes}
use Rattle.operations.proofs.Laws.Object.{ObjDiscrete, inner}
use Rattle.protocol.specs.Setting.{Setting}
use Rattle.protocol.specs.Writes.{latest}
use Rattle.protocol.proofs.Laws.Items.{find_item}
use Rattle.protocol.proofs.Laws.Ghosts.{find_wrote}
use Rattle.demand.proofs.Laws.Stays.{AllKeep}
use Rattle.demand.proofs.Laws.Store.{setting, home, present, states_left}
use Rattle.protocol.specs.Machine as P
use Rattle.protocol.specs.Moves as Mv

module _ (k j slots : ℕ) where
  abbrev T : Setting
  T = setting k j slots

  abbrev Items : Type 0
  Items = List (P.Item T)

  -- the object's home is there by the metadata read
  abbrev pub HomeThere : Items → Obj → Type 0
  HomeThere is o = present (Mv.meta_read T is) (home k j slots o) ≡ true

  pub record Lost (is : Items) : Type 0 where
    pub object : Obj
    pub item : P.Item T
    pub found : P.find T is object ≡ some item
    pub inner_read : inner object item.old ≡ true
    pub other : ¬ (object ≡ meta)
    pub gone : present (Mv.meta_read T is) (home k j slots object) ≡ false

  pub record Housed (is : Items) : Type 0 where
    -- the metadata is read first
    pub knows : (o : Obj) (i : P.Item T) → P.find T is o ≡ some i → (x : P.Item T) × (P.find T is meta ≡ some x)
    pub at_home : (o : Obj) (i : P.Item T) → P.find T is o ≡ some i → inner o i.old ≡ false → HomeThere is o ⊎ Lost is
    -- own writes leave the servers' states
    pub stated : (x : P.Item T) → P.find T is meta ≡ some x → states_of x.new ≡ states_of x.old

  pub none_housed : Housed []
  unfolding P.find
  none_housed = record {
    knows = λ o i e. absurd (none-ne-some i e);
    at_home = λ o i e _. absurd (none-ne-some i e);
    stated = λ x e. absurd (none-ne-some x e);
  }

  -- an object that is read with the value v after these items: it is the metadata, or comes after it; where it is outer, its home is there
  pub record PlacedAt (is : Items) (o : Obj) (v : Val) : Type 0 where
    pub known : (o ≡ meta) ⊎ ((x : P.Item T) × (P.find T is meta ≡ some x))
    pub there : inner o v ≡ false → HomeThere is o ⊎ Lost is

  -- ---- one item more: its own, and others as before
  module _ (it : P.Item T) (is : Items) where
    pub find_first : P.find T (it ∷ is) it.obj ≡ some it
    unfolding P.find
    find_first = go (ObjDiscrete it.obj it.obj) refl
      where
        go : (d : Dec (it.obj ≡ it.obj)) → ObjDiscrete it.obj it.obj ≡ d → P.find T (it ∷ is) it.obj ≡ some it
        go (yes p) e = rw (e, P.find) refl
        go (no n) e = absurd (n refl)

    pub find_past : (o : Obj) → ¬ (o ≡ it.obj) → P.find T (it ∷ is) o ≡ P.find T is o
    unfolding P.find
    find_past o n = go (ObjDiscrete it.obj o) refl
      where
        go : (d : Dec (it.obj ≡ o)) → ObjDiscrete it.obj o ≡ d → P.find T (it ∷ is) o ≡ P.find T is o
        go (yes p) e = absurd (n (sym p))
        go (no n) e = rw (e, P.find) refl

  module _ (is : Items) (it : P.Item T) (new : P.find T is it.obj ≡ none) where
    -- what was found is found still
    pub still : (o : Obj) (i : P.Item T) → P.find T is o ≡ some i → P.find T (it ∷ is) o ≡ some i
    still o i e = find_past it is o (λ q. absurd (none-ne-some i (sym new ∙ ap (P.find T is) (sym q) ∙ e))) ∙ e

    same_meta : (x : P.Item T) → P.find T is meta ≡ some x → Mv.meta_read T (it ∷ is) ≡ Mv.meta_read T is
    same_meta x e = ap (P.says T (λ i. i.old) (T.init meta)) (still meta x e ∙ sym e)

    still_home : (x : P.Item T) → P.find T is meta ≡ some x → (o : Obj) → HomeThere is o ⊎ Lost is → HomeThere (it ∷ is) o ⊎ Lost (it ∷ is)
    still_home x e o (inl h) = inl (ap (λ (v : Val). present v (home k j slots o)) (same_meta x e) ∙ h)
    still_home x e o (inr l) = inr (record {
      object = l.object;
      item = l.item;
      found = still l.object l.item l.found;
      inner_read = l.inner_read;
      other = l.other;
      gone = ap (λ (v : Val). present v (home k j slots l.object)) (same_meta x e) ∙ l.gone;
    })

    pub more_housed : Housed is → it.new ≡ it.old → PlacedAt is it.obj it.old → Housed (it ∷ is)
    more_housed H e at = record {
      knows = λ o i q. known at.known;
      at_home = λ o i q n. go o i q n (ObjDiscrete o it.obj) at.known;
      stated = λ x q. states x q at.known;
    }
      where
        known : (it.obj ≡ meta) ⊎ ((x : P.Item T) × (P.find T is meta ≡ some x)) → (x : P.Item T) × (P.find T (it ∷ is) meta ≡ some x)
        known (inl q) = (it, subst (λ (o : Obj). P.find T (it ∷ is) o ≡ some it) q (find_first it is))
        known (inr x) = (x.0, still meta x.0 x.1)

        one : (o : Obj) (i : P.Item T) → P.find T (it ∷ is) o ≡ some i → o ≡ it.obj → it ≡ i
        one o i q p = some-injective it i (sym (find_first it is) ∙ ap (P.find T (it ∷ is)) (sym p) ∙ q)

        go : (o : Obj) (i : P.Item T) → P.find T (it ∷ is) o ≡ some i → inner o i.old ≡ false → Dec (o ≡ it.obj)
            → (it.obj ≡ meta) ⊎ ((x : P.Item T) × (P.find T is meta ≡ some x)) → HomeThere (it ∷ is) o ⊎ Lost (it ∷ is)
        go o i q n (yes p) (inl z) = absurd (false≢true (sym n ∙ ap (λ (o : Obj). inner o i.old) (p ∙ z)))
        go o i q n (yes p) (inr x) =
            subst (λ (o : Obj). HomeThere (it ∷ is) o ⊎ Lost (it ∷ is)) (sym p)
            (still_home x.0 x.1 it.obj (at.there (ap₂ inner (sym p) (ap (λ (x : P.Item T). x.old) (one o i q p)) ∙ n)))
        go o i q n (no d) _ =
            let old = sym (find_past it is o d) ∙ q in
            let x = H.knows o i old in
            still_home x.0 x.1 o (H.at_home o i old n)

        states : (x : P.Item T) → P.find T (it ∷ is) meta ≡ some x → (it.obj ≡ meta) ⊎ ((x : P.Item T) × (P.find T is meta ≡ some x)) → states_of x.new ≡ states_of x.old
        states x q (inl z) = subst (λ (x : P.Item T). states_of x.new ≡ states_of x.old) (one meta x q (sym z)) (ap states_of e)
        states x q (inr y) = H.stated x (y.1 ∙ sym (still meta y.0 y.1) ∙ q)

  -- ---- the writes of an operation enter, which keep the states of the metadata read
  module _ (is : Items) (w : Writes) (H : Housed is) (keep : (x : P.Item T) → P.find T is meta ≡ some x → AllKeep (states_of x.old) w) where
    abbrev wrote : P.Item T → P.Item T
    wrote = Mv.wrote T w

    -- an item with the writes is one without them
    before : (o : Obj) (i : P.Item T) → P.find T (map wrote is) o ≡ some i → (x : P.Item T) × (P.find T is o ≡ some x) × (wrote x ≡ i)
    before o i e = go (P.find T is o) refl (sym (find_wrote T w is o) ∙ e)
      where
        go : (z : Option (P.Item T)) → P.find T is o ≡ z → Option.map wrote z ≡ some i → (x : P.Item T) × (P.find T is o ≡ some x) × (wrote x ≡ i)
        go none q r = absurd (none-ne-some i r)
        go (some x) q r = (x, q, some-injective (wrote x) i r)

    after : (o : Obj) (x : P.Item T) → P.find T is o ≡ some x → P.find T (map wrote is) o ≡ some (wrote x)
    after o x e = find_wrote T w is o ∙ ap (Option.map wrote) e

    meta_same : Mv.meta_read T (map wrote is) ≡ Mv.meta_read T is
    meta_same = ap (P.says T (λ i. i.old) (T.init meta)) (find_wrote T w is meta) ∙ go (P.find T is meta)
      where
        go : (z : Option (P.Item T)) → P.says T (λ i. i.old) (T.init meta) (Option.map wrote z) ≡ P.says T (λ i. i.old) (T.init meta) z
        go none = refl
        go (some x) = refl

    pub wrote_housed : Housed (map wrote is)
    wrote_housed = record {
      knows = λ o i e. let b = before o i e in let x = H.knows o b.0 b.1 in (wrote x.0, after meta x.0 x.1);
      at_home = λ o i e n. let b = before o i e in kept o (H.at_home o b.0 b.1 (ap (λ (y : P.Item T). inner o y.old) b.2 ∙ n));
      stated = λ x e. let b = before meta x e in subst (λ (x : P.Item T). states_of x.new ≡ states_of x.old) b.2 (left b.0 b.1);
    }
      where
        kept : (o : Obj) → HomeThere is o ⊎ Lost is → HomeThere (map wrote is) o ⊎ Lost (map wrote is)
        kept o (inl h) = inl (ap (λ (v : Val). present v (home k j slots o)) meta_same ∙ h)
        kept o (inr l) = inr (record {
          object = l.object;
          item = wrote l.item;
          found = after l.object l.item l.found;
          inner_read = l.inner_read;
          other = l.other;
          gone = ap (λ (v : Val). present v (home k j slots l.object)) meta_same ∙ l.gone;
        })

        left : (x : P.Item T) → P.find T is meta ≡ some x → states_of (wrote x).new ≡ states_of x.old
        left x e =
            ap (λ (o : Obj). states_of (latest ObjDiscrete w o x.new)) (find_item T is meta x e).1
            ∙ states_left w x.new (states_of x.old) (H.stated x e) (keep x e)
