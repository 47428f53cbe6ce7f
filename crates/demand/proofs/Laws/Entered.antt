-- "what is used enters the read set": an object that enters it, behind the others.
use Rattle.std.specs.Prelude.{◌≡◌, List, ◌∷◌, ℕ, ◌≤◌, ◌<◌}
use Rattle.std.proofs.Math.Path.{refl, ap, subst}
use Rattle.std.proofs.Common.{sym, ◌∙◌, inl, inr, arith, lt-ltb}
use Rattle.std.proofs.Math.Option.{some, none, none-ne-some}
use Rattle.memory.specs.Bit.{bit}
use Rattle.layout.specs.Space.{changed}
use Rattle.nodes.specs.declared.node.Node.{Node}
use Rattle.nodes.specs.Found.{Found}
use Rattle.std.specs.Prelude.{Some, None}
use Rattle.nodes.proofs.Laws.Stored.{Sized}
use Rattle.operations.specs.Object.{Obj, Val}
use Rattle.operations.proofs.Laws.Object.{ObjDiscrete}
use Rattle.protocol.specs.Lists.{Among}
use Rattle.client.specs.declared.part.Set.TheVariants.{Reads, Writes}
use Rattle.client.specs.Layout.{ClientWord, client_words, item, phase, participants, prepared, applied, reads_count}
use Rattle.client.specs.Record.{number, value_of}
use Rattle.client.specs.Sets.{at_most, count, record_at, number_at, find}
use Rattle.client.specs.Commit.{is_at}
use Rattle.client.specs.Items.{has}
use Rattle.client.specs.Participants.{lowest_of}
use Rattle.client.specs.Enter.{enter_read}
use Rattle.demand.proofs.Laws.Numbers.{obj_of, obj_number}
use Rattle.demand.proofs.Laws.Housed.{Housed, PlacedAt, find_first, find_past, more_housed}
use Rattle.demand.proofs.Laws.Shows.{phase_of, T, InStore, new_value, item_from, item_of, SlotShown}
use Rattle.demand.proofs.Laws.Slots.{find_frame, record_frame}
use Rattle.demand.proofs.Laws.Held.{found_at}
use Rattle.demand.proofs.Laws.Behind.{Elsewhere, field_same, set_same, reads_within, Behind, found_new, found_old, one_each, put_behind}
use Rattle.protocol.specs.Machine as P

-- ---- items of two parts
module _ (k j slots : ℕ) (u v : ClientWord → ℕ) where
  new_same : (o : Obj) (a b : Val) (f : Found) → ((i : ℕ) → record_at v Writes i ≡ record_at u Writes i) → a ≡ b → new_value k j slots v o a f ≡ new_value k j slots u o b f
  new_same o a b (Some i) h e = ap (value_of o) (h i)
  new_same o a b None h e = e

  -- the item of an object, where its place in the read set and the write set are the same
  pub item_same : (o : Obj) (i : ℕ) → record_at v Reads i ≡ record_at u Reads i → find v Writes (number o) ≡ find u Writes (number o)
      → ((i : ℕ) → record_at v Writes i ≡ record_at u Writes i) → item_from k j slots v o (Some i) ≡ item_from k j slots u o (Some i)
  unfolding has
  item_same o i r w h =
      let n = ap (new_value k j slots v o (value_of o (record_at v Reads i))) w
      ∙ new_same o (value_of o (record_at v Reads i)) (value_of o (record_at u Reads i)) (find u Writes (number o)) h (ap (value_of o) r) in
      λ t. some (record { obj = o; old = value_of o (r t); version = (r t).version; written = is_at (w t); new = n t })

-- ---- all words but those of the read set are the same
abbrev pub ElseSame : (ClientWord → ℕ) → (ClientWord → ℕ) → Type 0
ElseSame u v = Elsewhere Reads 10 u v

module _ (u v : ClientWord → ℕ) (h : ElseSame u v) where
  written_same : (i n : ℕ) → v (item Writes i n) ≡ u (item Writes i n)
  written_same = set_same Reads 10 u v h Writes (λ e. absurd (omega arith))

  writes_same : count v Writes ≡ count u Writes
  unfolding count
  writes_same = ap (at_most 48) (field_same Reads 10 u v h 11 (λ e. absurd (omega arith)))

  pub found_written : (x : ℕ) → find v Writes x ≡ find u Writes x
  found_written x = find_frame u v Writes writes_same (λ i. written_same i 0) x

  record_written : (i : ℕ) → record_at v Writes i ≡ record_at u Writes i
  record_written i = record_frame u v Writes i (written_same i)

-- ---- the machine's items: the first, and past it
-- ---- a transaction with other items, the rest as before
pub slot_with : (k j slots : ℕ) (u v : ClientWord → ℕ) (y : P.Slot (T k j slots)) → SlotShown k j slots u y → (is : List (P.Item (T k j slots)))
    → v phase ≡ u phase → v participants ≡ u participants → v prepared ≡ u prepared → v applied ≡ u applied
    → ((o : Obj) → InStore k j slots o → P.find (T k j slots) is o ≡ item_of k j slots v o)
    → ((i : ℕ) → i < count v Reads → find v Reads (number_at v Reads i) ≡ Some i)
    → ((i : ℕ) → i < count v Writes → find v Writes (number_at v Writes i) ≡ Some i)
    → ((i : P.Item (T k j slots)) → Among i is → InStore k j slots i.obj)
    → ((i : P.Item (T k j slots)) → Among i is → P.find (T k j slots) is i.obj ≡ some i)
    → Housed k j slots is
    → SlotShown k j slots v (P.with_items (T k j slots) y is)
slot_with k j slots u v y S is p q t a items reads writes inside unique housed = record {
  phase_as = ap phase_of p ∙ S.phase_as;
  item_as = items;
  read_found = reads;
  write_found = writes;
  inside = inside;
  unique = unique;
  participant_as = λ s. S.participant_as s ∙ ap (λ (w : ℕ). bit w s.0) (sym q);
  prepared_as = λ s. S.prepared_as s ∙ ap (λ (w : ℕ). bit w s.0) (sym t);
  applied_as = λ s. S.applied_as s ∙ ap (λ (w : ℕ). bit w s.0) (sym a);
  calm = λ l. t ∙ S.calm (subst (λ (w : ℕ). w < 2) p l);
  lowest_as = λ l. S.lowest_as (subst (λ (w : ℕ). 2 ≤ w) p l) ∙ ap (lowest_of 8) (sym q);
  housed = housed;
}

-- ---- AN OBJECT ENTERS THE READ SET
-- behind the others of the read set, which field 10 counts
abbrev pub ReadEntered : (ClientWord → ℕ) → (ClientWord → ℕ) → ℕ → Node → Type 0
ReadEntered = Behind Reads 10

pub read_entered : (u : ClientWord → ℕ) (x : ℕ) (r : Node) → Sized r → u reads_count < 96 → ReadEntered u (changed client_words u (enter_read x r u)) x r
unfolding enter_read
read_entered u x r h l =
    let c = reads_within u (omega arith) in
    let t = lt-ltb (u reads_count) 96 l in
    subst (λ ps. ReadEntered u (changed client_words u ps) x r) (sym (rw (c, t) refl))
    (put_behind Reads 10 x r h u c (λ v e. reads_within v (omega (arith, e, l)) ∙ e))

-- what it shows
module _ (k j slots : ℕ) (al : slots ≤ 1024) (u v : ClientWord → ℕ) (o : Obj) (r : Node) (E : ReadEntered u v (number o) r) where
  module _ (y : P.Slot (T k j slots)) (S : SlotShown k j slots u y) (hi : InStore k j slots o) (unread : find u Reads (number o) ≡ None) (unwritten : find u Writes (number o) ≡ None) (placed : PlacedAt k j slots y.items o (value_of o r)) where
    abbrev it : P.Item (T k j slots)
    it = P.item (T k j slots) o (value_of o r) r.version

    new_item : item_of k j slots v o ≡ some it
    unfolding item_of has
    new_item =
        let a = E.record_as in
        let w = found_written u v E.other (number o) ∙ unwritten in
        ap (item_from k j slots v o) (found_new Reads 10 u v (number o) r E unread)
        ∙ (λ t. some (record { obj = o; old = value_of o (a t); version = (a t).version; written = is_at (w t); new = new_value k j slots v o (value_of o (a t)) (w t) }))

    other_number : (q : Obj) → InStore k j slots q → ¬ (q ≡ o) → ¬ (number q ≡ number o)
    other_number q h d e = d (sym (obj_number slots al q h) ∙ ap obj_of e ∙ obj_number slots al o hi)

    old_item : (q : Obj) → InStore k j slots q → ¬ (q ≡ o) → item_of k j slots v q ≡ item_of k j slots u q
    unfolding item_of
    old_item q h d = ap (item_from k j slots v q) (found_old Reads 10 u v (number o) r E (number q) (other_number q h d)) ∙ go (find u Reads (number q)) refl
      where
        go : (z : Found) → find u Reads (number q) ≡ z → item_from k j slots v q z ≡ item_from k j slots u q z
        go None e = refl
        go (Some i) e =
            let l : i < u reads_count = subst (λ (c : ℕ). i < c) E.before (found_at u Reads (number q) i e).0 in
            item_same k j slots u v q i (record_frame u v Reads i (λ w. E.beside i w (λ z. omega arith))) (found_written u v E.other (number q)) (record_written u v E.other)

    item_as : (q : Obj) → InStore k j slots q → P.find (T k j slots) (it ∷ y.items) q ≡ item_of k j slots v q
    item_as q h = go (ObjDiscrete q o)
      where
        go : Dec (q ≡ o) → P.find (T k j slots) (it ∷ y.items) q ≡ item_of k j slots v q
        go (yes e) = subst (λ (q : Obj). P.find (T k j slots) (it ∷ y.items) q ≡ item_of k j slots v q) (sym e) (find_first k j slots it y.items ∙ sym new_item)
        go (no d) = find_past k j slots it y.items q d ∙ S.item_as q h ∙ sym (old_item q h d)

    -- the machine has no item of the object
    none_yet : P.find (T k j slots) y.items o ≡ none
    unfolding item_of
    none_yet = S.item_as o hi ∙ ap (item_from k j slots u o) unread

    unique : (i : P.Item (T k j slots)) → Among i (it ∷ y.items) → P.find (T k j slots) (it ∷ y.items) i.obj ≡ some i
    unfolding Among
    unique i (inl e) = subst (λ (i : P.Item (T k j slots)). P.find (T k j slots) (it ∷ y.items) i.obj ≡ some i) (sym e) (find_first k j slots it y.items)
    unique i (inr h) =
        let f = S.unique i h in
        find_past k j slots it y.items i.obj (λ e. absurd (none-ne-some i (sym none_yet ∙ ap (P.find (T k j slots) y.items) (sym e) ∙ f))) ∙ f

    pub slot_entered : SlotShown k j slots v (P.with_item (T k j slots) y o (value_of o r) r.version)
    unfolding Among number_at
    slot_entered =
        slot_with k j slots u v y S (it ∷ y.items) (field_same Reads 10 u v E.other 0 (λ e. absurd (omega arith))) (field_same Reads 10 u v E.other 5 (λ e. absurd (omega arith)))
        (field_same Reads 10 u v E.other 6 (λ e. absurd (omega arith))) (field_same Reads 10 u v E.other 7 (λ e. absurd (omega arith))) item_as
        (one_each Reads 10 u v (number o) r E S.read_found unread)
        (λ i l. ap (find v Writes) (written_same u v E.other i 0) ∙ found_written u v E.other (number_at u Writes i) ∙ S.write_found i (subst (λ (c : ℕ). i < c) (writes_same u v E.other) l))
        inside unique (more_housed k j slots y.items it none_yet S.housed refl placed)
      where
        inside : (i : P.Item (T k j slots)) → Among i (it ∷ y.items) → InStore k j slots i.obj
        inside i (inl e) = subst (λ (i : P.Item (T k j slots)). InStore k j slots i.obj) (sym e) hi
        inside i (inr h) = S.inside i h
