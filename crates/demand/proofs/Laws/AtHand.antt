-- What a client has at hand, its sets and copies, is at hand for the machine.
use Rattle.std.specs.Prelude.{◌≡◌, Bool, cond, ◌||◌, not}
use Rattle.std.proofs.Math.Path.{refl, ap, sym, subst}
use Rattle.std.proofs.Common.{◌∙◌, arith}
use Rattle.std.proofs.Math.Bool.{true, false}
use Rattle.std.proofs.lemmas.Bool.{false≢true, eqb-false}
use Rattle.std.proofs.Math.Option.{Option, none, some, none-ne-some, some-injective}
use Prim.Native.Nat.{ℕ, suc, ◌+◌, ◌/◌, ◌%◌, ◌≤◌, ◌<◌}
use Rattle.std.proofs.Math.Dec.{eqb}
use Rattle.base.proofs.Laws.Test.{one_if_is}
use Rattle.base.specs.Test.{and_both, one_if}
use Rattle.memory.specs.Bit.{bit}
use Rattle.nodes.specs.Found.{Found}
use Rattle.std.specs.Prelude.{Some, None}
use Rattle.nodes.specs.Lists.{pad}
use Rattle.nodes.specs.Node.{made}
use Rattle.operations.specs.Object.{Obj, meta, node, flag, object, Val, taken}
use Rattle.operations.proofs.Laws.Object.{inner}
use Rattle.client.specs.Have.{Look}
use Rattle.client.specs.declared.part.Set.TheVariants.{Reads, Writes, Copies}
use Rattle.client.specs.Layout.{ClientWord, vector_word, meta_states, meta_root, meta_version}
use Rattle.client.specs.Record.{number, value_of, single, metadata, object_in_store, record_in_range}
use Rattle.client.specs.Sets.{record_at, number_at, count, find}
use Rattle.client.specs.Commit.{is_at}
use Rattle.client.specs.Items.{has}
use Rattle.client.specs.Laws.Ranges.{client_fits}
use Rattle.client.specs.Have.{here, copy, lacking, is_found, is_copied, copy_fits, copied_meta, copied_item, copied_node, copied_flag, copied, or_copied, or_read, source, look_fits, usable, have}
use Rattle.demand.proofs.Laws.Numbers.{by_object, by_number_of, as_node, name_lt}
use Rattle.demand.proofs.Laws.Shows.{T, InStore, item_from, item_of, SlotShown, CopiesShown}
use Rattle.demand.proofs.Laws.Held.{found_at, has_at, at_has, written_in}
use Rattle.demand.proofs.Laws.Members.{name_server}
use Rattle.demand.proofs.Laws.InRange.{fits_vector}
use Rattle.nodes.specs.Name as N
use Rattle.protocol.specs.Machine as P
use Rattle.protocol.proofs.Laws.Work as W
use Rattle.demand.proofs.Laws.Shows as S

-- a lookup has found something
abbrev pub IsThere : Look → Type 0
IsThere l = is_found l.how ≡ true

-- a word in range that says whether there is a copy: it is 1 where it is not 0
there_is_one : (w : ℕ) → eqb w 0 ≡ false → w ≤ 1 → w ≡ 1
there_is_one w e l = omega (arith, eqb-false w 0 e, l)

-- ---- copies: one that is stored is the machine's
module _ (k j slots : ℕ) (al : slots ≤ 1024) (u : ClientWord → ℕ) (f : Obj → Option (P.Copy (T k j slots))) (copies : CopiesShown k j slots u f) (fit : client_fits slots u ≡ true) where
  -- the machine has what a lookup among the copies says
  abbrev SameCopy : Obj → Look → Type 0
  SameCopy o l = f o ≡ S.copy k j slots u (value_of o l.node) l.node.version

  meta_there : IsThere (copied_meta u) → SameCopy meta (copied_meta u)
  unfolding copied_meta metadata made pad
  meta_there b = go (eqb (u meta_states) 0) refl b
    where
      go : (t : Bool) → eqb (u meta_states) 0 ≡ t → IsThere (cond t lacking (copy (metadata (u meta_version) (u meta_root) (u meta_states))))
          → SameCopy meta (cond t lacking (copy (metadata (u meta_version) (u meta_root) (u meta_states))))
      go true e b = absurd (false≢true b)
      go false e b = copies.meta_as (eqb-false (u meta_states) 0 e)

  node_there : (n : ℕ) → IsThere (copied_node u (number (node n))) → SameCopy (node n) (copied_node u (number (node n)))
  unfolding copied_node count number_at
  node_there n b = go (find u Copies (number (node n))) refl b
    where
      go : (z : Found) → find u Copies (number (node n)) ≡ z → IsThere (copied_item u z) → SameCopy (node n) (copied_item u z)
      go None e b = absurd (false≢true b)
      go (Some i) e b = let h = found_at u Copies (number (node n)) i e in copies.node_as i n h.0 h.1

  flag_there : (n : ℕ) → InStore k j slots (flag n) → IsThere (copied_flag u n) → SameCopy (flag n) (copied_flag u n)
  unfolding copied_flag single made pad
  flag_there n h b = go (eqb (u (vector_word (N.server_of n) 0)) 0) refl b
    where
      w : ℕ
      w = u (vector_word (N.server_of n) (1 + N.slot_of n / 64))

      go : (t : Bool) → eqb (u (vector_word (N.server_of n) 0)) 0 ≡ t
          → IsThere (cond t lacking (copy (single 0 (one_if (bit w (N.slot_of n % 64))))))
          → SameCopy (flag n) (cond t lacking (copy (single 0 (one_if (bit w (N.slot_of n % 64))))))
      go true e b = absurd (false≢true b)
      go false e b =
          let next : suc (N.slot_of n / 64) ≡ 1 + N.slot_of n / 64 = omega arith in
          copies.flag_as n h (there_is_one (u (vector_word (N.server_of n) 0)) e (fits_vector slots u fit (N.server_of n) (name_server k j slots n h)))
          ∙ ap (λ (i : ℕ). S.copy k j slots u (taken (bit (u (vector_word (N.server_of n) i)) (N.slot_of n % 64))) 0) next
          ∙ ap (λ (t : Bool). S.copy k j slots u (taken t) 0) (sym (one_if_is (bit w (N.slot_of n % 64))))

  pub copy_there : (o : Obj) → InStore k j slots o → IsThere (copied u (number o)) → SameCopy o (copied u (number o))
  unfolding copied
  copy_there o h b =
      let e = by_number_of slots al o h (copied_meta u) (λ n. copied_node u (number o)) (copied_flag u) in
      subst (SameCopy o) (sym e) (by o h (subst IsThere e b))
    where
      by : (o : Obj) → InStore k j slots o → IsThere (by_object o (copied_meta u) (λ n. copied_node u (number o)) (copied_flag u))
          → SameCopy o (by_object o (copied_meta u) (λ n. copied_node u (number o)) (copied_flag u))
      by meta h b = meta_there b
      by (node n) h b = node_there n b
      by (flag n) h b = flag_there n h b

  -- ---- "An object is read from the write set, else the read set, else the client's copies"
  module _ (y : P.Slot (T k j slots)) (shown : SlotShown k j slots u y) where
    -- what is written has been read
    pub written_read : (o : Obj) → has u Writes (number o) ≡ true → has u Reads (number o) ≡ true
    written_read o h =
        let w = has_at u Writes (number o) h in
        let f = found_at u Writes (number o) w.0 w.1 in
        subst (λ (x : ℕ). has u Reads x ≡ true) f.1 (written_in k j slots al u fit w.0 f.0).1

    -- what a lookup says is what the machine has at hand of o
    abbrev MachineHas : Obj → Look → Type 0
    MachineHas o l = W.have (T k j slots) f y.items o ≡ some (value_of o l.node)

    has_as : (o : Obj) → InStore k j slots o → W.have (T k j slots) f y.items o ≡ W.at_hand (T k j slots) (item_of k j slots u o) (f o)
    has_as o h = ap (λ z. W.at_hand (T k j slots) z (f o)) (shown.item_as o h)

    from_written : (o : Obj) → InStore k j slots o → (i : ℕ) → find u Writes (number o) ≡ Some i → MachineHas o (here (record_at u Writes i))
    unfolding item_of has
    from_written o h i e =
        let r = has_at u Reads (number o) (written_read o (at_has u Writes (number o) i e)) in
        has_as o h ∙ ap (λ z. W.at_hand (T k j slots) (item_from k j slots u o z) (f o)) r.1
        ∙ ap (λ z. some (cond (is_at z) (S.new_value k j slots u o (value_of o (record_at u Reads r.0)) z) (value_of o (record_at u Reads r.0)))) e

    from_read : (o : Obj) → InStore k j slots o → (i : ℕ) → find u Writes (number o) ≡ None → find u Reads (number o) ≡ Some i
        → MachineHas o (here (record_at u Reads i))
    unfolding item_of has
    from_read o h i n e =
        has_as o h ∙ ap (λ z. W.at_hand (T k j slots) (item_from k j slots u o z) (f o)) e
        ∙ ap (λ z. some (cond (is_at z) (S.new_value k j slots u o (value_of o (record_at u Reads i)) z) (value_of o (record_at u Reads i)))) n

    from_copy : (o : Obj) → InStore k j slots o → find u Reads (number o) ≡ None → IsThere (copied u (number o)) → MachineHas o (copied u (number o))
    unfolding item_of
    from_copy o h e b =
        has_as o h ∙ ap (λ z. W.at_hand (T k j slots) (item_from k j slots u o z) (f o)) e
        ∙ ap (W.at_hand (T k j slots) none) (copy_there o h b)

    -- what a lookup finds
    pub source_there : (o : Obj) → InStore k j slots o → IsThere (source u (number o)) → MachineHas o (source u (number o))
    unfolding source
    source_there o h b = go (find u Writes (number o)) refl (find u Reads (number o)) refl b
      where
        go : (w : Found) → find u Writes (number o) ≡ w → (r : Found) → find u Reads (number o) ≡ r → IsThere (or_read u (number o) w) → MachineHas o (or_read u (number o) w)
        go (Some i) e r q b = from_written o h i e
        go None e (Some i) q b = subst (λ z. MachineHas o (or_copied u (number o) z)) (sym q) (from_read o h i e q)
        go None e None q b =
            subst (λ z. MachineHas o (or_copied u (number o) z)) (sym q)
            (from_copy o h q (subst (λ z. IsThere (or_copied u (number o) z)) q b))

    -- an object at hand is in the store, its record fits, and the machine has its value at hand
    pub record Had (o : Obj) (v : Val) : Type 0 where
      pub in_store : InStore k j slots o
      pub found : IsThere (source u (number o))
      pub fitting : record_in_range slots (number o) (source u (number o)).node ≡ true
      pub value_as : v ≡ value_of o (source u (number o)).node
      -- what is copied of nodes is an inner one
      pub copy_as : (not (is_copied (source u (number o)).how) || copy_fits u (number o) (source u (number o)).node) ≡ true

    pub had : (o : Obj) (v : Val) → have slots u (object o) ≡ some v → Had o v
    unfolding have look_fits
    had o v e = go (object_in_store slots o) refl (usable slots u (number o) (source u (number o))) refl e
      where
        l : Look
        l = source u (number o)

        go : (a : Bool) → object_in_store slots o ≡ a → (b : Bool) → usable slots u (number o) l ≡ b
            → cond a (cond b (some (value_of o l.node)) none) none ≡ some v → Had o v
        go false p b q e = absurd (none-ne-some v e)
        go true p false q e = absurd (none-ne-some v e)
        go true p true q e =
            let h = and_both (is_found l.how) (look_fits slots u (number o) l) q in
            let g = and_both (record_in_range slots (number o) l.node) (not (is_copied l.how) || copy_fits u (number o) l.node) h.1 in
            record { in_store = p; found = h.0; fitting = g.0; value_as = sym (some-injective (value_of o l.node) v e); copy_as = g.1 }

    pub copied_inner : (n : ℕ) (v : Val) → Had (node n) v → find u Writes (1 + n) ≡ None → find u Reads (1 + n) ≡ None → inner (node n) (value_of (node n) (copied u (1 + n)).node) ≡ true
    unfolding source copied copied_node copy_fits
    copied_inner n v h a b =
        let near = name_lt slots al n h.in_store in
        let item : copied u (1 + n) ≡ copied_item u (find u Copies (1 + n)) = as_node (copied_meta u) (λ _. copied_node u (1 + n)) (copied_flag u) n near in
        let same : source u (1 + n) ≡ copied_item u (find u Copies (1 + n)) = ap (or_read u (1 + n)) a ∙ ap (or_copied u (1 + n)) b ∙ item in
        subst (λ (l : Look). eqb l.node.kind 2 ≡ true) (sym item)
        (go (find u Copies (1 + n)) near (subst IsThere same h.found) (subst (λ (l : Look). (not (is_copied l.how) || copy_fits u (1 + n) l.node) ≡ true) same h.copy_as))
      where
        go : (z : Found) → n < 8192 → IsThere (copied_item u z) → (not (is_copied (copied_item u z).how) || copy_fits u (1 + n) (copied_item u z).node) ≡ true → eqb (copied_item u z).node.kind 2 ≡ true
        go None l q r = absurd (false≢true q)
        go (Some i) l q r = sym (as_node true (λ _. eqb (record_at u Copies i).kind 2) (λ x. eqb (u (vector_word (N.server_of x) 0)) 1) n l) ∙ r

    -- AT HAND
    pub have_there : (o : Obj) (v : Val) → have slots u (object o) ≡ some v → W.have (T k j slots) f y.items o ≡ some v
    have_there o v e = let h = had o v e in source_there o h.in_store h.found ∙ ap some (sym h.value_as)
