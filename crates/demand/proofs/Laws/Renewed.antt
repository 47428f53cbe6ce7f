-- "The last apply .. renews its copies": each renewal is a move of the machine's copies.
use Rattle.std.specs.Prelude.{◌≡◌, Bool, true, false, ◌&&◌, ◌||◌, not, List, [], ◌∷◌, ◌⊎◌, leb, ltb, length, get_or}
use Rattle.std.proofs.Math.Path.{refl, ap, sym, subst}
use Rattle.std.proofs.Common.{ap₂, ◌∙◌, inl, inr, arith}
use Rattle.std.proofs.Math.Bool.{cond}
use Rattle.std.proofs.lemmas.Bool.{false≢true}
use Rattle.std.proofs.Math.Option.{Option, some}
use Prim.Native.Nat.{ℕ, suc, ◌+◌, ◌-◌, ◌/◌, ◌%◌, ◌≤◌, ◌<◌, Fin}
use Rattle.std.proofs.Math.Decide.{ℕ_discrete, Fin-discrete}
use borrow.Author.Tests.{ltb-true, ltb-false, lt-leb, ne_eqb, eqb-true}
use Rattle.std.proofs.Math.Dec.{eqb}
use Rattle.base.proofs.Laws.Test.{bool_cases, or_cases}
use Rattle.base.specs.Test.{and_both}
use Rattle.base.specs.Update.{upd}
use Rattle.base.proofs.Laws.Update.{upd_same, upd_other}
use Rattle.memory.specs.Bit.{bit}
use Rattle.layout.specs.Space.{changed, tab}
use Rattle.layout.proofs.Laws.Space.{length_tab, get_or_tab}
use Rattle.nodes.specs.declared.node.Node.{Node}
use Rattle.nodes.specs.Found.{Found}
use Rattle.std.specs.Prelude.{Some, None}
use Rattle.nodes.specs.Flags.{with_flag}
use Rattle.nodes.specs.Node.{keys_of, slots_of}
use Rattle.nodes.specs.Stored.{node_of}
use Rattle.nodes.proofs.Laws.Stored.{Sized}
use Rattle.operations.specs.Object.{Obj, meta, node, flag, Val, root, taken}
use Rattle.operations.proofs.Laws.Object.{ObjDiscrete}
use Rattle.protocol.specs.State.{decided}
use Rattle.client.specs.declared.part.Set.TheVariants.{Reads, Writes}
use Rattle.client.specs.Layout.{ClientWord, client_words, item, vector_word, lost}
use Rattle.client.specs.Record.{number, by_number, value_of, first_slot, second_slot, last_version}
use Rattle.client.specs.Sets.{count, record_at, number_at, find}
use Rattle.client.specs.Vectors.{has_vector, vector_copy}
use Rattle.client.specs.Commit.{is_at, inner_at}
use Rattle.client.specs.Items.{all_below}
use Rattle.client.specs.Fits.{young}
use Rattle.client.specs.Laws.Ranges.{client_fits}
use Rattle.client.specs.Drops.{version_of, next_version}
use Rattle.client.specs.Copies.{copy_node}
use Rattle.client.specs.Part.{PartStep, nothing, put_fields, put_vector}
use Rattle.demand.proofs.Laws.Store.{by_value}
use Rattle.demand.proofs.Laws.Frame.{then_keeps, sweep_keeps}
use Rattle.demand.proofs.Laws.Numbers.{by_object, obj_of, number_obj, name_lt}
use Rattle.demand.proofs.Laws.Shows.{T, InStore, copy, new_value, item_from, item_of, SlotShown, CopiesShown}
use Rattle.demand.proofs.Laws.Slots.{SameSets, count_frame, number_frame, same_read, record_frame}
use Rattle.demand.proofs.Laws.Dropped.{fewer, fewer_copies, only_outer, fewer_sets}
use Rattle.demand.proofs.Laws.Held.{all_at, first_at, found_at, has_at, written_in}
use Rattle.demand.proofs.Laws.Written.{by_obj}
use Rattle.demand.proofs.Laws.Placed.{record_sized}
use Rattle.demand.proofs.Laws.CopyWords.{sets_stay, sets_then, only_copy, only_fields, only_vector, flag_same, flag_other}
use Rattle.demand.proofs.Laws.Copied.{other_kind, flag_name, one_copy, copies_moved, given, copied_node, meta_put, Taken, vector_put}
use Rattle.nodes.specs.Name as N
use Rattle.protocol.specs.Machine as P
use Rattle.protocol.specs.Moves as Mv
use Rattle.client.specs.Items as I
use Rattle.client.specs.Renew as Rn

-- ---- a number that names a node
node_number : (x : ℕ) (f : ℕ → Bool) → by_number x false f (λ n. false) ≡ true → (n : ℕ) × (obj_of x ≡ node n) × (x ≡ 1 + n)
node_number x f h = go (obj_of x) refl (sym (by_obj x false f (λ n. false)) ∙ h)
  where
    go : (o : Obj) → obj_of x ≡ o → by_object o false f (λ n. false) ≡ true → (n : ℕ) × (obj_of x ≡ node n) × (x ≡ 1 + n)
    go meta e t = absurd (false≢true t)
    go (node n) e t = (n, e, sym (number_obj x) ∙ ap number e)
    go (flag n) e t = absurd (false≢true t)

flag_number : (x : ℕ) → 8193 ≤ x → obj_of x ≡ flag (x - 8193)
unfolding obj_of
flag_number x h = rw (ne_eqb x 0 (λ e. absurd (omega arith)), lt-leb x 8192 (omega arith))

-- an inner node's item has an inner record
inner_is : (w : ClientWord → ℕ) (i : ℕ) → inner_at w Writes i ≡ true → I.inner (number_at w Writes i) (record_at w Writes i) ≡ true
unfolding inner_at I.inner record_at node_of tab
inner_is w i h = go (eqb (number_at w Writes i) 0) (leb (number_at w Writes i) 8192) h
  where
    go : (a b : Bool) → cond a false (cond b (eqb (w (item Writes i 1)) 2) false) ≡ true → cond a true (cond b (eqb (w (item Writes i 1)) 2) false) ≡ true
    go true b h = refl
    go false b h = h

-- ---- copies are renewed one after another: what each of these steps leaves as it is said, they leave all together
pub record Renews (R : (ClientWord → ℕ) → Type 0) : Type 0 where
  -- "nodes no longer inner go first"
  pub outer_drops : (i : ℕ) (w : ClientWord → ℕ) → R w → R (changed client_words w (Rn.drop_outer i w))
  -- "then written inner nodes by name"
  pub node_renews : (i : ℕ) (w : ClientWord → ℕ) → R w → i < count w Writes → inner_at w Writes i ≡ true
      → R (changed client_words w (copy_node (number_at w Writes i) (Rn.renewed w i) w))
  -- "metadata"
  pub meta_renews : (i : ℕ) (w : ClientWord → ℕ) → R w → find w Writes 0 ≡ Some i
      → R (changed client_words w (put_fields 12 (w (item Writes i 20) ∷ w (item Writes i 19) ∷ Rn.new_version w 0 ∷ []) w))
  -- "flags", in their vectors; x: before the first of them
  pub flag_renews : (i : ℕ) (w x : ClientWord → ℕ) → R w → R x → i < count x Writes → 8193 ≤ number_at w Writes i
      → let n = number_at w Writes i - 8193 in has_vector w (N.server_of n) ≡ true
      → R (changed client_words w (put_vector (N.server_of n) (with_flag (vector_copy w (N.server_of n)) (N.slot_of n) (eqb (w (item Writes i 19)) 1)) w))

module _ (R : (ClientWord → ℕ) → Type 0) (K : Renews R) where
  nth_renews : (q : ℕ) (w : ClientWord → ℕ) → R w → R (changed client_words w (Rn.renew_nth q w))
  unfolding Rn.renew_nth Rn.ranked Rn.rank nothing changed
  nth_renews q w r = go (Rn.ranked w (q + 1)) refl
    where
      go : (f : Found) → Rn.ranked w (q + 1) ≡ f → R (changed client_words w (Rn.renew_found w f w))
      go None e = r
      go (Some i) e = by_kind (bool_cases (inner_at w Writes i))
        where
          at : (i < count w Writes) × (Rn.rank w i ≡ q + 1)
          at = first_at (Rn.rank w) (count w Writes) (q + 1) i e

          by_kind : (inner_at w Writes i ≡ true) ⊎ (inner_at w Writes i ≡ false) → R (changed client_words w (copy_node (number_at w Writes i) (Rn.renewed w i) w))
          by_kind (inl h) = K.node_renews i w r at.0 h
          by_kind (inr h) =
              let none : Rn.rank w i ≡ 0 = ap (λ (b : Bool). cond b (Rn.inner_below w (number_at w Writes i) (count w Writes) + 1) 0) h in
              absurd (omega (arith, none, at.1))

  metadata_renews : (w : ClientWord → ℕ) → R w → R (changed client_words w (Rn.renew_meta w))
  unfolding Rn.renew_meta nothing changed
  metadata_renews w r = go (find w Writes 0) refl
    where
      go : (f : Found) → find w Writes 0 ≡ f → R (changed client_words w (Rn.meta_found w f w))
      go None e = r
      go (Some i) e = K.meta_renews i w r e

  in_vector : (i : ℕ) (w x : ClientWord → ℕ) → R w → R x → i < count x Writes → R (changed client_words w (Rn.renew_flag i w))
  unfolding Rn.renew_flag Rn.renew_in nothing changed
  in_vector i w x r s l = go (ltb (number_at w Writes i) 8193) refl (ltb (N.server_of n) 8 && has_vector w (N.server_of n)) refl
    where
      n : ℕ
      n = number_at w Writes i - 8193

      put : PartStep
      put = put_vector (N.server_of n) (with_flag (vector_copy w (N.server_of n)) (N.slot_of n) (eqb (w (item Writes i 19)) 1))

      go : (a : Bool) → ltb (number_at w Writes i) 8193 ≡ a → (b : Bool) → (ltb (N.server_of n) 8 && has_vector w (N.server_of n)) ≡ b
          → R (changed client_words w (cond a nothing (cond b put nothing) w))
      go true e b d = r
      go false e false d = r
      go false e true d = K.flag_renews i w x r s l (ltb-false (number_at w Writes i) 8193 e) (and_both (ltb (N.server_of n) 8) (has_vector w (N.server_of n)) d).1

  all_renews : (u : ClientWord → ℕ) → R u → R (changed client_words u (Rn.renew u))
  unfolding Rn.renew Rn.renew_written Rn.for_writes
  all_renews u r =
      then_keeps client_words R (Rn.for_writes Rn.drop_outer) Rn.renew_written u
      (sweep_keeps client_words R Rn.drop_outer (count u Writes) (λ i w l. K.outer_drops i w) u r)
      (λ w q. then_keeps client_words R (Rn.for_writes Rn.renew_nth) _ w (sweep_keeps client_words R Rn.renew_nth (count w Writes) (λ i v l. nth_renews i v) w q)
      (λ v p. then_keeps client_words R Rn.renew_meta (Rn.for_writes Rn.renew_flag) v (metadata_renews v p)
      (λ x s. sweep_keeps client_words R Rn.renew_flag (count x Writes) (λ i y l t. in_vector i y x t s l) x s)))

-- "a lost client gets none"
pub renew_keeps : (R : (ClientWord → ℕ) → Type 0) (u : ClientWord → ℕ) → (eqb (u lost) 1 ≡ false → Renews R) → R u → R (changed client_words u (Rn.renew_kept u))
unfolding Rn.renew_kept nothing changed
renew_keeps R u K r = go (eqb (u lost) 1) refl
  where
    go : (b : Bool) → eqb (u lost) 1 ≡ b → R (changed client_words u (cond b nothing Rn.renew u))
    go true e = r
    go false e = all_renews R (K e) u r

-- the versions read of metadata and inner nodes that are renewed have a next one
unfoldable pub renews_young : (ClientWord → ℕ) → Bool
renews_young u = eqb (u lost) 1 || all_below (count u Writes) (λ i. not (I.inner (number_at u Writes i) (record_at u Writes i)) || young u (number_at u Writes i))

module _ (k j slots : ℕ) (al : slots ≤ 1024) (M : P.Machine (T k j slots)) (c : Fin (suc j)) (u : ClientWord → ℕ) (fit : client_fits slots u ≡ true) (shown : SlotShown k j slots u (M.slots c)) (now : (M.slots c).phase ≡ decided) (early : renews_young u ≡ true) where
  abbrev Copy : Type 0
  Copy = Option (P.Copy (T k j slots))

  -- ---- a write's item: what it writes, and the version that it read
  pub record Written (i : ℕ) (o : Obj) : Type 0 where
    pub stored : InStore k j slots o
    pub read_at : ℕ
    pub found : find u Reads (number_at u Writes i) ≡ Some read_at
    pub item : P.Item (T k j slots)
    pub has : P.find (T k j slots) (M.slots c).items o ≡ some item
    pub written : item.written ≡ true
    pub new : item.new ≡ value_of o (record_at u Writes i)
    pub version : item.version ≡ (record_at u Reads read_at).version

  write_item : (i : ℕ) → i < count u Writes → Written i (obj_of (number_at u Writes i))
  unfolding item_of I.has
  write_item i l = record {
    stored = in_both.0;
    read_at = r;
    found = e;
    item = record {
      obj = o;
      old = value_of o (record_at u Reads r);
      version = (record_at u Reads r).version;
      written = I.has u Writes (number o);
      new = new_value k j slots u o (value_of o (record_at u Reads r)) (find u Writes (number o));
    };
    has = shown.item_as o in_both.0 ∙ ap (item_from k j slots u o) (ap (find u Reads) (number_obj x) ∙ e);
    written = ap is_at there;
    new = ap (new_value k j slots u o (value_of o (record_at u Reads r))) there;
    version = refl;
  }
    where
      x : ℕ
      x = number_at u Writes i

      o : Obj
      o = obj_of x

      in_both : InStore k j slots o × (I.has u Reads x ≡ true)
      in_both = written_in k j slots al u fit i l

      r : ℕ
      r = (has_at u Reads x in_both.1).0

      e : find u Reads x ≡ Some r
      e = (has_at u Reads x in_both.1).1

      there : find u Writes (number o) ≡ Some i
      there = ap (find u Writes) (number_obj x) ∙ shown.write_found i l

  -- ---- copies on the way: the machine's, with those of this client that are renewed so far
  pub record Renewing (w : ClientWord → ℕ) : Type 0 where
    pub copies : Fin (suc j) → Obj → Copy
    pub reached : Mv.Reached (T k j slots) (P.with_copies (T k j slots) M copies)
    pub others : (d : Fin (suc j)) → ¬ (d ≡ c) → copies d ≡ M.copy d
    pub shows : CopiesShown k j slots w (copies c)
    pub sets : SameSets u w

  -- no copy is renewed
  unrenewed : (w v : ClientWord → ℕ) (K : Renewing w) → SameSets w v → CopiesShown k j slots v (K.copies c) → Renewing v
  unrenewed w v K s h =
      record { copies = K.copies; reached = K.reached; others = K.others; shows = h; sets = sets_then u w v K.sets s }

  -- the copy of o is renewed, as item i has it
  renewal : (w v : ClientWord → ℕ) (K : Renewing w) → SameSets w v → (o : Obj) (z : Copy) → Mv.Copied (T k j slots) (P.with_copies (T k j slots) M K.copies) c o z
      → CopiesShown k j slots v (upd ObjDiscrete (K.copies c) o z) → Renewing v
  renewal w v K s o z legal h = record {
    copies = upd (Fin-discrete (suc j)) K.copies c g;
    reached = copies_moved k j slots N c g K.reached (one_copy k j slots N c o z legal);
    others = λ d n. upd_other (Fin-discrete (suc j)) K.copies c g d n ∙ K.others d n;
    shows = subst (CopiesShown k j slots v) (sym (upd_same (Fin-discrete (suc j)) K.copies c g)) h;
    sets = sets_then u w v K.sets s;
  }
    where
      g : Obj → Copy
      g = upd ObjDiscrete (K.copies c) o z

      N : P.Machine (T k j slots)
      N = P.with_copies (T k j slots) M K.copies

  -- the copy that an item gives; n: no version of a flag, of others the one read plus 1
  renewed_legal : (F : Fin (suc j) → Obj → Copy) (i : ℕ) (o : Obj) (W : Written i o) (v : Val) (n : ℕ) → v ≡ value_of o (record_at u Writes i)
      → n ≡ cond (by_value k j slots o) 0 (suc (record_at u Reads W.read_at).version)
      → Mv.Copied (T k j slots) (P.with_copies (T k j slots) M F) c o (copy k j slots u v n)
  renewed_legal F i o W v n e q =
      coe 0 1 (t. Mv.Copied (T k j slots) (P.with_copies (T k j slots) M F) c o (copy k j slots u ((W.new ∙ sym e) t)
      ((ap (λ (x : ℕ). cond (by_value k j slots o) 0 (suc x)) W.version ∙ sym q) t)))
      (Mv.renewed W.item now W.has W.written)

  -- "a written version becomes the one read plus 1": of the metadata and of inner nodes, where the client is not lost
  next_is : eqb (u lost) 1 ≡ false → (w : ClientWord → ℕ) → SameSets u w → (i : ℕ) → i < count u Writes → (o : Obj) (W : Written i o) → number_at u Writes i ≤ 8192
      → I.inner (number_at u Writes i) (record_at u Writes i) ≡ true
      → Rn.new_version w (number_at u Writes i) ≡ suc (record_at u Reads W.read_at).version
  unfolding Rn.new_version next_version record_at node_of tab renews_young young
  next_is kept w S i l o W small inside =
      ap (λ (v : ℕ). cond (ltb v last_version) (suc v) 0) (ap (version_of w) (same_read u w k j slots S x ∙ W.found) ∙ S.items_read W.read_at 3) ∙ rw below
    where
      x : ℕ
      x = number_at u Writes i

      below : ltb (u (item Reads W.read_at 3)) last_version ≡ true
      below = go (or_cases (ltb 8192 x) (ltb (version_of u (find u Reads x)) last_version) next)
        where
          each : ℕ → Bool
          each i = not (I.inner (number_at u Writes i) (record_at u Writes i)) || young u (number_at u Writes i)

          next : (ltb 8192 x || ltb (version_of u (find u Reads x)) last_version) ≡ true
          next =
              subst (λ (b : Bool). (not b || young u x) ≡ true) inside
              (all_at (count u Writes) each (subst (λ (b : Bool). (b || all_below (count u Writes) each) ≡ true) kept early) i l)

          go : (ltb 8192 x ≡ true) ⊎ (ltb (version_of u (find u Reads x)) last_version ≡ true) → ltb (u (item Reads W.read_at 3)) last_version ≡ true
          go (inl h) = absurd (omega (arith, ltb-true 8192 x h))
          go (inr h) = sym (ap (λ (f : Found). ltb (version_of u f) last_version) W.found) ∙ h

  -- ---- "nodes no longer inner go first"
  outer_dropped : (i : ℕ) (w : ClientWord → ℕ) → Renewing w → Renewing (changed client_words w (Rn.drop_outer i w))
  outer_dropped i w K =
      let drops = fewer (Rn.drop_outer i w) w (only_outer i w) in
      unrenewed w (changed client_words w (Rn.drop_outer i w)) K (fewer_sets w (changed client_words w (Rn.drop_outer i w)) drops)
      (fewer_copies k j slots w (changed client_words w (Rn.drop_outer i w)) (K.copies c) drops K.shows)

  -- ---- "then written inner nodes by name"
  module _ (w : ClientWord → ℕ) (K : Renewing w) where
    -- the write items are the same
    count_is : count w Writes ≡ count u Writes
    count_is = count_frame u w Writes K.sets.reads K.sets.writes

    number_is : (i : ℕ) → number_at w Writes i ≡ number_at u Writes i
    number_is i = number_frame k j slots u w K.sets Writes i (K.sets.items_written i 0)

    record_is : (i : ℕ) → record_at w Writes i ≡ record_at u Writes i
    record_is i = record_frame u w Writes i (K.sets.items_written i)

    -- the root's name or a flag that is written
    first_is : (i : ℕ) → w (item Writes i 19) ≡ first_slot (record_at u Writes i)
    unfolding record_at node_of tab
    first_is i = K.sets.items_written i 19

    second_is : (i : ℕ) → w (item Writes i 20) ≡ second_slot (record_at u Writes i)
    unfolding record_at node_of tab
    second_is i = K.sets.items_written i 20

    node_renewed : eqb (u lost) 1 ≡ false → (i n : ℕ) → i < count w Writes → inner_at w Writes i ≡ true → obj_of (number_at w Writes i) ≡ node n → number_at w Writes i ≡ 1 + n
        → Renewing (changed client_words w (copy_node (number_at w Writes i) (Rn.renewed w i) w))
    unfolding Rn.renewed Rn.versioned keys_of slots_of
    node_renewed kept i n l h e q =
        subst (λ (x : ℕ). Renewing (changed client_words w (copy_node x r w))) (sym q)
        (go (copied_node k j slots w (K.copies c) K.shows n r sized))
      where
        r : Node
        r = Rn.renewed w i

        v : ClientWord → ℕ
        v = changed client_words w (copy_node (1 + n) r w)

        sized : Sized r
        sized = let z = record_sized w Writes i in record { keys = z.keys; slots = z.slots }

        inside : i < count u Writes
        inside = subst (λ (x : ℕ). i < x) count_is l

        W : Written i (node n)
        W = subst (Written i) (ap obj_of (sym (number_is i)) ∙ e) (write_item i inside)

        new : r.version ≡ suc (record_at u Reads W.read_at).version
        new =
            ap (Rn.new_version w) (number_is i)
            ∙ next_is kept w K.sets i inside (node n) W (omega (arith, q, number_is i, name_lt slots al n W.stored))
            (ap₂ I.inner (sym (number_is i)) (sym (record_is i)) ∙ inner_is w i h)

        go : CopiesShown k j slots v (K.copies c) ⊎ CopiesShown k j slots v (given k j slots w (K.copies c) K.shows n r sized) → Renewing v
        go (inl h) = unrenewed w v K (sets_stay (copy_node (1 + n) r w) w (only_copy (1 + n) r w)) h
        go (inr h) =
            renewal w v K (sets_stay (copy_node (1 + n) r w) w (only_copy (1 + n) r w)) (node n) (copy k j slots u (value_of (node n) r) r.version)
            (renewed_legal K.copies i (node n) W (value_of (node n) r) r.version (ap (value_of (node n)) (record_is i)) new) h

    -- ---- "metadata"
    meta_renewed : eqb (u lost) 1 ≡ false → (i : ℕ) → find w Writes 0 ≡ Some i → Renewing (changed client_words w (put_fields 12 (w (item Writes i 20) ∷ w (item Writes i 19) ∷ Rn.new_version w 0 ∷ []) w))
    unfolding obj_of I.inner
    meta_renewed kept i e =
        renewal w (changed client_words w (put_fields 12 (w (item Writes i 20) ∷ w (item Writes i 19) ∷ Rn.new_version w 0 ∷ []) w)) K
        (sets_stay (put_fields 12 (w (item Writes i 20) ∷ w (item Writes i 19) ∷ Rn.new_version w 0 ∷ []) w) w (only_fields (w (item Writes i 20)) (w (item Writes i 19)) (Rn.new_version w 0) w))
        meta (copy k j slots u (root (w (item Writes i 19)) (w (item Writes i 20))) (Rn.new_version w 0))
        (renewed_legal K.copies i meta W (root (w (item Writes i 19)) (w (item Writes i 20))) (Rn.new_version w 0) (ap₂ root (first_is i) (second_is i))
        (ap (Rn.new_version w) (sym zero_at) ∙ next_is kept w K.sets i inside meta W (omega (arith, zero_at)) (ap (λ (x : ℕ). I.inner x (record_at u Writes i)) zero_at)))
        (meta_put k j slots w (K.copies c) K.shows (w (item Writes i 19)) (w (item Writes i 20)) (Rn.new_version w 0))
      where
        at : (i < count w Writes) × (number_at w Writes i ≡ 0)
        at = found_at w Writes 0 i e

        inside : i < count u Writes
        inside = subst (λ (x : ℕ). i < x) count_is at.0

        zero_at : number_at u Writes i ≡ 0
        zero_at = sym (number_is i) ∙ at.1

        W : Written i meta
        W = subst (λ (x : ℕ). Written i (obj_of x)) zero_at (write_item i inside)

    -- ---- "flags": in their vectors
    module _ (i n : ℕ) (W : Written i (flag n)) (b : Bool) (at : taken b ≡ value_of (flag n) (record_at u Writes i)) (there : has_vector w (N.server_of n) ≡ true) where
      abbrev g : Obj → Copy
      g = upd ObjDiscrete (K.copies c) (flag n) (copy k j slots u (taken b) 0)

      abbrev ws : List ℕ
      ws = with_flag (vector_copy w (N.server_of n)) (N.slot_of n) b

      else : (o : Obj) → ¬ (o ≡ flag n) → g o ≡ K.copies c o
      else o d = upd_other ObjDiscrete (K.copies c) (flag n) (copy k j slots u (taken b) 0) o d

      long : length (vector_copy w (N.server_of n)) ≡ 16
      unfolding vector_copy
      long = length_tab 16 (λ j. w (vector_word (N.server_of n) (suc j)))

      -- another flag of the same server: as its bit was
      beside : (q : ℕ) → InStore k j slots (flag q) → N.server_of q ≡ N.server_of n → ¬ (q ≡ n)
          → K.copies c (flag q) ≡ copy k j slots u (taken (bit (get_or ws (N.slot_of q / 64) 0) (N.slot_of q % 64))) 0
      unfolding has_vector vector_copy
      beside q h s d =
          K.shows.flag_as q h (ap (λ (x : ℕ). w (vector_word x 0)) s ∙ eqb-true (w (vector_word (N.server_of n) 0)) 1 there)
          ∙ ap (λ (x : ℕ). copy k j slots u (taken (bit x (N.slot_of q % 64))) 0)
          (ap (λ (x : ℕ). w (vector_word x (suc (N.slot_of q / 64)))) s
          ∙ sym (get_or_tab 16 (λ j. w (vector_word (N.server_of n) (suc j))) (N.slot_of q / 64) (omega arith)))
          ∙ ap (λ (x : Bool). copy k j slots u (taken x) 0) (sym (flag_other (vector_copy w (N.server_of n)) n q b long (λ e. d (omega (arith, s, e)))))

      bits_are : Taken k j slots w (K.copies c) K.shows (N.server_of n) ws g
      bits_are = record {
        same = λ o d. else o (other_kind o (flag n) d);
        others = λ q d. else (flag q) (λ e. d (ap N.server_of (flag_name q n e)));
        ours = λ q h s. go q h s (ℕ_discrete q n);
      }
        where
          go : (q : ℕ) → InStore k j slots (flag q) → N.server_of q ≡ N.server_of n → Dec (q ≡ n)
              → g (flag q) ≡ copy k j slots u (taken (bit (get_or ws (N.slot_of q / 64) 0) (N.slot_of q % 64))) 0
          go q h s (no d) = else (flag q) (λ e. d (flag_name q n e)) ∙ beside q h s d
          go q h s (yes e) =
              ap (λ (x : ℕ). g (flag x)) e ∙ upd_same ObjDiscrete (K.copies c) (flag n) (copy k j slots u (taken b) 0)
              ∙ ap (λ (x : Bool). copy k j slots u (taken x) 0)
              (sym (ap (λ (x : ℕ). bit (get_or ws (N.slot_of x / 64) 0) (N.slot_of x % 64)) e ∙ flag_same (vector_copy w (N.server_of n)) n b long))

      flag_put : Renewing (changed client_words w (put_vector (N.server_of n) ws w))
      flag_put =
          renewal w (changed client_words w (put_vector (N.server_of n) ws w)) K
          (sets_stay (put_vector (N.server_of n) ws w) w (only_vector (N.server_of n) ws w)) (flag n) (copy k j slots u (taken b) 0)
          (renewed_legal K.copies i (flag n) W (taken b) 0 at refl)
          (vector_put k j slots w (K.copies c) K.shows (N.server_of n) ws g bits_are)

  -- ---- all of them, in order
  pub renew_kept : Renewing u → Renewing (changed client_words u (Rn.renew_kept u))
  unfolding inner_at
  renew_kept =
      renew_keeps Renewing u
      (λ kept. record {
        outer_drops = outer_dropped;
        node_renews = λ i w K l h.
            let a = node_number (number_at w Writes i) (λ n. eqb (w (item Writes i 1)) 2) h in node_renewed w K kept i a.0 l h a.1 a.2;
        meta_renews = λ i w K e. meta_renewed w K kept i e;
        flag_renews = λ i w x K Kx l big there.
            let n = number_at w Writes i - 8193 in
            let W = subst (Written i) (ap obj_of (sym (number_is w K i)) ∙ flag_number (number_at w Writes i) big)
            (write_item i (subst (λ (a : ℕ). i < a) (count_is x Kx) l)) in
            flag_put w K i n W (eqb (w (item Writes i 19)) 1) (ap (λ (x : ℕ). taken (eqb x 1)) (first_is w K i)) there;
      })
