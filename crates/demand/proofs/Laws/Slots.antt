-- What a client's part shows stays where the words that show it do; a transaction that begins or has ended.
use Rattle.std.specs.Prelude.{◌≡◌}
use Rattle.std.proofs.Math.Path.{refl, ap, ap₂, fun_ext}
use Rattle.std.proofs.Common.{sym, ◌∙◌, subst, arith}
use Rattle.std.proofs.Math.Option.{Option, some}
use Prim.Native.Nat.{ℕ, suc, ◌+◌, ◌/◌, ◌%◌, ◌≤◌, ◌<◌}
use Rattle.memory.specs.Bit.{bit}
use Rattle.memory.proofs.Laws.Bit.{zero_bit}
use Rattle.layout.specs.Space.{tab}
use Rattle.nodes.specs.declared.node.Node.{Node}
use Rattle.nodes.specs.Found.{Found}
use Rattle.std.specs.Prelude.{Some, None}
use Rattle.operations.specs.Object.{Obj, meta, node, flag, Val, root, taken}
use Rattle.protocol.specs.Lists.{Among}
use Rattle.client.specs.declared.part.Set.{Set}
use Rattle.client.specs.declared.part.Set.TheVariants.{Reads, Writes, Copies}
use Rattle.client.specs.Layout.{ClientWord, phase, participants, prepared, applied, item, vector_word, reads_count, writes_count, meta_states, meta_root, meta_version}
use Rattle.client.specs.Record.{number, value_of}
use Rattle.nodes.specs.Stored.{node_of}
use Rattle.client.specs.Sets.{at_most, count, record_at, number_at, first_of, find}
use Rattle.client.specs.Commit.{is_at}
use Rattle.client.specs.Items.{has}
use Rattle.client.specs.Participants.{lowest_of}
use Rattle.demand.proofs.Laws.Housed.{none_housed}
use Rattle.demand.proofs.Laws.Shows.{phase_of, T, InStore, new_value, item_from, item_of, SlotShown, CopiesShown, copy}
use Rattle.nodes.specs.Name as N
use Rattle.protocol.specs.Machine as P

-- ---- items
module _ (u v : ClientWord → ℕ) where
  pub find_frame : (s : Set) → count v s ≡ count u s → ((i : ℕ) → v (item s i 0) ≡ u (item s i 0)) → (x : ℕ) → find v s x ≡ find u s x
  unfolding find number_at
  find_frame s c h x = ap₂ (λ (f : ℕ → ℕ) (n : ℕ). first_of f n x) (fun_ext h) c

  -- a record, whose words come after the number
  pub record_later : (s : Set) (i : ℕ) → ((n : ℕ) → v (item s i (suc n)) ≡ u (item s i (suc n))) → record_at v s i ≡ record_at u s i
  unfolding record_at
  record_later s i h = ap (λ (f : ℕ → ℕ). node_of (tab 33 f)) (fun_ext h)

  pub record_frame : (s : Set) (i : ℕ) → ((n : ℕ) → v (item s i n) ≡ u (item s i n)) → record_at v s i ≡ record_at u s i
  record_frame s i h = record_later s i (λ n. h (suc n))

  -- as many items, where the counts are the same
  pub count_frame : (s : Set) → v reads_count ≡ u reads_count → v writes_count ≡ u writes_count → count v s ≡ count u s
  unfolding count
  count_frame Reads r w = ap (at_most 96) r
  count_frame Writes r w = ap (at_most 48) w
  count_frame Copies r w = refl

  -- the words of both sets are the same
  pub record SameSets : Type 0 where
    pub reads : v reads_count ≡ u reads_count
    pub writes : v writes_count ≡ u writes_count
    pub items_read : (i n : ℕ) → v (item Reads i n) ≡ u (item Reads i n)
    pub items_written : (i n : ℕ) → v (item Writes i n) ≡ u (item Writes i n)

  module _ (k j slots : ℕ) (S : SameSets) where
    pub same_read : (x : ℕ) → find v Reads x ≡ find u Reads x
    same_read x = find_frame Reads (count_frame Reads S.reads S.writes) (λ i. S.items_read i 0) x

    pub same_written : (x : ℕ) → find v Writes x ≡ find u Writes x
    same_written x = find_frame Writes (count_frame Writes S.reads S.writes) (λ i. S.items_written i 0) x

    new_frame : (o : Obj) (a b : Val) (f : Found) → a ≡ b → new_value k j slots v o a f ≡ new_value k j slots u o b f
    new_frame o a b (Some i) e = ap (value_of o) (record_frame Writes i (S.items_written i))
    new_frame o a b None e = e

    from_frame : (o : Obj) (f : Found) → item_from k j slots v o f ≡ item_from k j slots u o f
    unfolding has
    from_frame o None = refl
    from_frame o (Some i) =
        let r = record_frame Reads i (S.items_read i) in
        let w = same_written (number o) in
        let n = ap (new_value k j slots v o (value_of o (record_at v Reads i))) w
        ∙ new_frame o (value_of o (record_at v Reads i)) (value_of o (record_at u Reads i)) (find u Writes (number o)) (ap (value_of o) r) in
        λ t. some (record { obj = o; old = value_of o (r t); version = (r t).version; written = is_at (w t); new = n t })

    pub item_frame : (o : Obj) → item_of k j slots v o ≡ item_of k j slots u o
    unfolding item_of
    item_frame o = ap (item_from k j slots v o) (same_read (number o)) ∙ from_frame o (find u Reads (number o))

-- ---- a transaction whose sets stay
module _ (k j slots : ℕ) (u v : ClientWord → ℕ) (S : SameSets u v) where
  pub number_frame : (s : Set) (i : ℕ) → v (item s i 0) ≡ u (item s i 0) → number_at v s i ≡ number_at u s i
  unfolding number_at
  number_frame s i h = h

  pub read_frame : ((i : ℕ) → i < count u Reads → find u Reads (number_at u Reads i) ≡ Some i) → (i : ℕ) → i < count v Reads → find v Reads (number_at v Reads i) ≡ Some i
  read_frame h i l =
      ap₂ (λ (x : ℕ) (g : ℕ → Found). g x) (number_frame Reads i (S.items_read i 0)) (fun_ext (same_read u v k j slots S))
      ∙ h i (subst (λ (n : ℕ). i < n) (count_frame u v Reads S.reads S.writes) l)

  pub write_frame : ((i : ℕ) → i < count u Writes → find u Writes (number_at u Writes i) ≡ Some i) → (i : ℕ) → i < count v Writes → find v Writes (number_at v Writes i) ≡ Some i
  write_frame h i l =
      ap₂ (λ (x : ℕ) (g : ℕ → Found). g x) (number_frame Writes i (S.items_written i 0)) (fun_ext (same_written u v k j slots S))
      ∙ h i (subst (λ (n : ℕ). i < n) (count_frame u v Writes S.reads S.writes) l)

  pub slot_frame : (y : P.Slot (T k j slots)) → v phase ≡ u phase → v participants ≡ u participants → v prepared ≡ u prepared → v applied ≡ u applied
      → SlotShown k j slots u y → SlotShown k j slots v y
  slot_frame y p q r a h = record {
    phase_as = ap phase_of p ∙ h.phase_as;
    item_as = λ o i. h.item_as o i ∙ sym (item_frame u v k j slots S o);
    read_found = read_frame h.read_found;
    write_found = write_frame h.write_found;
    inside = h.inside;
    unique = h.unique;
    participant_as = λ s. h.participant_as s ∙ ap (λ (w : ℕ). bit w s.0) (sym q);
    prepared_as = λ s. h.prepared_as s ∙ ap (λ (w : ℕ). bit w s.0) (sym r);
    applied_as = λ s. h.applied_as s ∙ ap (λ (w : ℕ). bit w s.0) (sym a);
    calm = λ l. r ∙ h.calm (subst (λ (w : ℕ). w < 2) p l);
    lowest_as = λ l. h.lowest_as (subst (λ (w : ℕ). 2 ≤ w) p l) ∙ ap (lowest_of 8) (sym q);
    housed = h.housed;
  }

-- ---- copies that stay, one by one and all; g: the copies afterwards
module _ (k j slots : ℕ) (u v : ClientWord → ℕ) (f g : Obj → Option (P.Copy (T k j slots))) (h : CopiesShown k j slots u f) where
  pub meta_stays : v meta_states ≡ u meta_states → v meta_root ≡ u meta_root → v meta_version ≡ u meta_version → g meta ≡ f meta
      → ¬ (v meta_states ≡ 0) → g meta ≡ copy k j slots v (root (v meta_root) (v meta_states)) (v meta_version)
  meta_stays a b c s q = s ∙ h.meta_as (λ z. q (a ∙ z)) ∙ sym (λ t. copy k j slots u (root (b t) (a t)) (c t))

  pub node_stays : (i n : ℕ) → ((q : ℕ) → v (item Copies i q) ≡ u (item Copies i q)) → g (node n) ≡ f (node n)
      → i < 64 → v (item Copies i 0) ≡ 1 + n → g (node n) ≡ copy k j slots v (value_of (node n) (record_at v Copies i)) (record_at v Copies i).version
  node_stays i n d s l q =
      s ∙ h.node_as i n l (sym (d 0) ∙ q)
      ∙ ap (λ (r : Node). copy k j slots u (value_of (node n) r) r.version) (sym (record_frame u v Copies i d))

  pub flag_stays : (n : ℕ) → ((q : ℕ) → v (vector_word (N.server_of n) q) ≡ u (vector_word (N.server_of n) q)) → g (flag n) ≡ f (flag n)
      → InStore k j slots (flag n) → v (vector_word (N.server_of n) 0) ≡ 1
      → g (flag n) ≡ copy k j slots v (taken (bit (v (vector_word (N.server_of n) (suc (N.slot_of n / 64)))) (N.slot_of n % 64))) 0
  flag_stays n e s i q =
      s ∙ h.flag_as n i (sym (e 0) ∙ q) ∙ ap (λ (w : ℕ). copy k j slots u (taken (bit w (N.slot_of n % 64))) 0) (sym (e (suc (N.slot_of n / 64))))

module _ (k j slots : ℕ) (u v : ClientWord → ℕ) where
  pub copies_frame : (f : Obj → Option (P.Copy (T k j slots))) → v meta_states ≡ u meta_states → v meta_root ≡ u meta_root → v meta_version ≡ u meta_version
      → ((i n : ℕ) → v (item Copies i n) ≡ u (item Copies i n)) → ((s n : ℕ) → v (vector_word s n) ≡ u (vector_word s n))
      → CopiesShown k j slots u f → CopiesShown k j slots v f
  copies_frame f a b c d e h = record {
    meta_as = meta_stays k j slots u v f f h a b c refl;
    node_as = λ i n. node_stays k j slots u v f f h i n (d i) refl;
    flag_as = λ n. flag_stays k j slots u v f f h n (e (N.server_of n)) refl;
    apart = λ i n l r q z. h.apart i n l r (sym (d i 0) ∙ q ∙ d n 0) (λ w. z (d i 0 ∙ w));
  }

-- ---- no items: a transaction that begins, or has ended
pub blank_shown : (k j slots : ℕ) (u : ClientWord → ℕ) → u phase < 2 → u reads_count ≡ 0 → u writes_count ≡ 0 → u participants ≡ 0 → u prepared ≡ 0 → u applied ≡ 0
    → SlotShown k j slots u (P.blank (T k j slots) (phase_of (u phase)))
unfolding item_of find count first_of P.find Among
blank_shown k j slots u p r w q e a = record {
  phase_as = refl;
  item_as = λ o i. sym (ap (item_from k j slots u o) (ap (λ (n : ℕ). first_of (number_at u Reads) (at_most 96 n) (number o)) r));
  read_found = λ i l. absurd (nothing i (subst (λ (n : ℕ). i < at_most 96 n) r l));
  write_found = λ i l. absurd (nothing i (subst (λ (n : ℕ). i < at_most 48 n) w l));
  inside = λ i h. absurd h;
  unique = λ i h. absurd h;
  participant_as = λ s. sym (ap (λ (w : ℕ). bit w s.0) q ∙ zero_bit s.0);
  prepared_as = λ s. sym (ap (λ (w : ℕ). bit w s.0) e ∙ zero_bit s.0);
  applied_as = λ s. sym (ap (λ (w : ℕ). bit w s.0) a ∙ zero_bit s.0);
  calm = λ _. e;
  lowest_as = λ l. absurd (omega arith);
  housed = none_housed k j slots;
}
  where
    nothing : (i : ℕ) → ¬ (i < 0)
    nothing i l = absurd (omega arith)
