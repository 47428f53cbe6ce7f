-- The read set and the write set stay sound: where their words do, where they are empty, and as objects enter the read set. A sound part is in range.
use Rattle.std.specs.Prelude.{◌≡◌, Bool, cond, ◌&&◌, List, ◌∷◌, leb}
use Rattle.std.proofs.Math.Path.{refl, ap, subst}
use Rattle.std.proofs.Common.{sym, ◌∙◌, eqb-true, le-leb, leb-true, ltb-true}
use Rattle.std.proofs.Math.Bool.{true, false}
use Rattle.std.proofs.lemmas.Bool.{false≢true, eqb-false}
use Prim.Native.Nat.{ℕ, suc, ◌+◌, ◌-◌, ◌/◌, ◌%◌, ◌≤◌, ◌<◌}
use native.Mathlib.Omega.{arith}
use Rattle.std.proofs.Math.Decide.{ℕ_discrete}
use Rattle.std.proofs.Math.Dec.{eqb, ltb}
use Rattle.std.proofs.Math.ListN.{get_or, length}
use Rattle.base.specs.Test.{and_both, one_if}
use Rattle.memory.specs.Bit.{bit}
use Rattle.layout.specs.Space.{changed}
use Rattle.plans.specs.Walk.{Every}
use Rattle.nodes.specs.declared.node.Node.{Node}
use Rattle.nodes.specs.Found.{Found}
use Rattle.std.specs.Prelude.{Some, None}
use Rattle.nodes.specs.Lists.{pad}
use Rattle.nodes.specs.Node.{made}
use Rattle.nodes.specs.Range.{node_in_range}
use Rattle.nodes.proofs.Laws.Range.{range_version}
use Rattle.nodes.proofs.Laws.Stored.{Sized}
use Rattle.client.specs.Have.{Look}
use Rattle.client.specs.declared.part.Set.{Set}
use Rattle.client.specs.declared.part.Set.TheVariants.{Reads, Writes, Copies}
use Rattle.client.specs.Layout.{ClientWord, client_words, field, item, vector_word, reads_count, writes_count, meta_states, meta_root, meta_version}
use Rattle.client.specs.Record.{first_slot, second_slot, single, metadata, number_in_store, in_store, last_version, record_in_range}
use Rattle.client.specs.Sets.{or_found, at_most, count, record_at, number_at, find}
use Rattle.client.specs.Items.{has}
use Rattle.client.specs.Part.{nothing}
use Rattle.client.specs.Laws.Ranges.{bounds, field_fits, has_read, vector_fits, item_fits, client_fits}
use Rattle.client.specs.Have.{copy, lacking, is_found, copied_meta, copied_item, copied_node, copied_flag, copied}
use Rattle.client.specs.Enter.{enter_read, enter_copy, enter_nth, enter_used}
use Rattle.client.specs.Answered.{used_enter}
use Rattle.client.specs.Drops.{version_of}
use Rattle.demand.proofs.Laws.Frame.{sweep_keeps}
use Rattle.demand.proofs.Laws.Slots.{SameSets, find_frame, record_frame, count_frame}
use Rattle.demand.proofs.Laws.InRange.{all_from}
use Rattle.demand.proofs.Laws.Held.{found_at, has_at, at_has}
use Rattle.demand.proofs.Laws.Behind.{field_same, set_same, Behind, find_behind}
use Rattle.demand.proofs.Laws.Entered.{ElseSame, ReadEntered, read_entered}
use Rattle.demand.proofs.Laws.Used.{copied_same, copied_sized, after_used}
use Rattle.ranges.proofs.Laws.Lists.{every_at}
use Rattle.ranges.specs.Laws.Sound.{Sound, ItemSound, SetsSound, CopiesSound, PartSound}
use Rattle.nodes.specs.States.{states_fit, metadata_fits}
use Rattle.nodes.specs.Name as N

-- ---- A SOUND PART IS IN RANGE
pub part_fits : (slots : ℕ) (u : ClientWord → ℕ) → PartSound slots u → client_fits slots u ≡ true
unfolding client_fits field_fits item_fits has_read vector_fits has
part_fits slots u P =
    let S = P.sets in
    let fields = all_from (field_fits u) 13 (λ i l. le-leb (u (field i)) (get_or bounds i 0) (P.fields.within i l)) in
    let reads = all_from (item_fits slots u Reads) (count u Reads) (λ i l. let h = S.read i l in rw (h.inside, h.sound.fitting)) in
    let writes = all_from (item_fits slots u Writes) (count u Writes) (λ i l. let h = S.written i l in rw (h.inside, h.sound.fitting, S.written_read i l)) in
    let vectors = all_from (vector_fits u) 8 (λ s l. le-leb (u (vector_word s 0)) 1 (P.copies.vectors s l)) in
    rw (fields, P.fields.op, reads, writes, vectors)

-- the version of metadata, or of a node
pub sound_version : (slots : ℕ) (x : ℕ) (r : Node) → Sound slots x r → x ≤ 8192 → r.version ≤ last_version
unfolding record_in_range metadata_fits
sound_version slots x r h l = go (eqb x 0) (leb x 8192) (le-leb x 8192 l) h.fitting
  where
    go : (a b : Bool) → b ≡ true
        → cond a (metadata_fits slots (first_slot r) (second_slot r) r.version) (cond b (node_in_range r) (leb (first_slot r) 1)) ≡ true → r.version ≤ last_version
    go true b t q =
        let rest = leb r.version last_version && states_fit (second_slot r) in
        leb-true r.version last_version (and_both (leb r.version last_version) (states_fit (second_slot r)) (and_both (in_store slots (first_slot r)) rest q).1).0
    go false true t q = range_version r q
    go false false t q = absurd (false≢true t)

-- ---- all items of a set
module _ (slots : ℕ) (u : ClientWord → ℕ) where
  abbrev AllSound : Set → Type 0
  AllSound s = (i : ℕ) → i < count u s → ItemSound slots (number_at u s i) (record_at u s i)

module _ (slots : ℕ) (u v : ClientWord → ℕ) (s : Set) where
  -- an item whose words are the same
  pub item_stays : (i : ℕ) → ((n : ℕ) → v (item s i n) ≡ u (item s i n))
      → ItemSound slots (number_at u s i) (record_at u s i) → ItemSound slots (number_at v s i) (record_at v s i)
  unfolding number_at
  item_stays i e h = let r = record_frame u v s i e in coe 1 0 (t. ItemSound slots (e 0 t) (r t)) h

  pub all_stay : count v s ≡ count u s → ((i n : ℕ) → v (item s i n) ≡ u (item s i n)) → AllSound slots u s → AllSound slots v s
  all_stay c e h i l = item_stays i (e i) (h i (subst (λ (n : ℕ). i < n) c l))

  -- one more behind them
  all_behind : (f x : ℕ) (r : Node) → Behind s f u v x r → ItemSound slots x r → AllSound slots u s → AllSound slots v s
  all_behind f x r B new h i l = go (ℕ_discrete i (u (field f)))
    where
      go : Dec (i ≡ u (field f)) → ItemSound slots (number_at v s i) (record_at v s i)
      go (yes e) =
          let a : number_at v s i ≡ x = ap (number_at v s) e ∙ B.number_as in
          let b : record_at v s i ≡ r = ap (record_at v s) e ∙ B.record_as in
          coe 1 0 (t. ItemSound slots (a t) (b t)) new
      go (no d) = item_stays i (λ n. B.beside i n d) (h i (omega (arith, l, d, B.before, B.after)))

-- ---- what may be written: what was read, with the metadata, at a version that has a next
pub record MayWrite (u : ClientWord → ℕ) (x : ℕ) : Type 0 where
  pub read : has u Reads x ≡ true
  pub rooted : has u Reads 0 ≡ true
  pub young : x ≤ 8192 → version_of u (find u Reads x) < last_version

pub written_may : (slots : ℕ) (u : ClientWord → ℕ) → SetsSound slots u → (i : ℕ) → i < count u Writes → MayWrite u (number_at u Writes i)
written_may slots u S i l = record { read = S.written_read i l; rooted = S.rooted i l; young = S.young i l }

-- the two sets together
pub sets_from : (slots : ℕ) (u : ClientWord → ℕ) → AllSound slots u Reads → AllSound slots u Writes
    → ((i : ℕ) → i < count u Writes → MayWrite u (number_at u Writes i)) → SetsSound slots u
sets_from slots u r w may = record { read = r; written = w; written_read = λ i l. (may i l).read; rooted = λ i l. (may i l).rooted; young = λ i l. (may i l).young }

module _ (u v : ClientWord → ℕ) where
  -- what was found in the read set is found at the same place, with its record
  abbrev pub ReadsStay : Type 0
  ReadsStay = (x i : ℕ) → find u Reads x ≡ Some i → (find v Reads x ≡ Some i) × (record_at v Reads i ≡ record_at u Reads i)

  pub reads_stay : count v Reads ≡ count u Reads → ((i n : ℕ) → v (item Reads i n) ≡ u (item Reads i n)) → ReadsStay
  reads_stay c e x i f = (find_frame u v Reads c (λ i. e i 0) x ∙ f, record_frame u v Reads i (e i))

  pub entered_stay : (x : ℕ) (r : Node) → ReadEntered u v x r → ReadsStay
  entered_stay x r E q i f = (
    find_behind Reads 10 u v x r E q ∙ ap (λ (g : Found). or_found g (cond (eqb x q) (Some (u reads_count)) None)) f,
    record_frame u v Reads i (λ w. E.beside i w (λ e. absurd (omega (arith, (found_at u Reads q i f).0, E.before, e)))),
  )

  pub may_stay : ReadsStay → (x : ℕ) → MayWrite u x → MayWrite v x
  may_stay h x m =
      let f = has_at u Reads x m.read in
      let g = h x f.0 f.1 in
      let same : version_of v (find v Reads x) ≡ version_of u (find u Reads x)
      = ap (version_of v) g.0 ∙ ap (λ (r : Node). r.version) g.1 ∙ sym (ap (version_of u) f.1) in
      let o = has_at u Reads 0 m.rooted in
      record { read = at_has v Reads x f.0 g.0; rooted = at_has v Reads 0 o.0 (h 0 o.0 o.1).0; young = λ l. subst (λ (n : ℕ). n < last_version) (sym same) (m.young l) }

  module _ (slots : ℕ) (stay : ReadsStay) (c : count v Writes ≡ count u Writes) (e : (i n : ℕ) → v (item Writes i n) ≡ u (item Writes i n)) where
    -- the write set's words are the same, the read set has what it had
    sets_stay : AllSound slots v Reads → SetsSound slots u → SetsSound slots v
    unfolding number_at
    sets_stay r S =
        sets_from slots v r (all_stay slots u v Writes c e S.written)
        (λ i l. subst (MayWrite v) (sym (e i 0)) (may_stay stay (number_at u Writes i) (written_may slots u S i (subst (λ (n : ℕ). i < n) c l))))

-- ---- BOTH SETS: their words stay, they are empty, and an object enters the read set
module _ (slots : ℕ) (u : ClientWord → ℕ) where
  pub sets_frame : (v : ClientWord → ℕ) → SameSets u v → SetsSound slots u → SetsSound slots v
  sets_frame v E S =
      let r = count_frame u v Reads E.reads E.writes in
      let w = count_frame u v Writes E.reads E.writes in
      sets_stay u v slots (reads_stay u v r E.items_read) w E.items_written (all_stay slots u v Reads r E.items_read S.read) S

  pub no_sets : u reads_count ≡ 0 → u writes_count ≡ 0 → SetsSound slots u
  unfolding count
  no_sets r w = sets_from slots u (λ i l. absurd (unread i l)) (λ i l. absurd (unwritten i l)) (λ i l. absurd (unwritten i l))
    where
      none : (i : ℕ) → ¬ (i < 0)
      none i l = absurd (omega arith)

      unread : (i : ℕ) → ¬ (i < count u Reads)
      unread i l = none i (subst (λ (n : ℕ). i < at_most 96 n) r l)

      unwritten : (i : ℕ) → ¬ (i < count u Writes)
      unwritten i l = none i (subst (λ (n : ℕ). i < at_most 48 n) w l)

  pub read_sound : (v : ClientWord → ℕ) (x : ℕ) (r : Node) → ReadEntered u v x r → ItemSound slots x r → SetsSound slots u → SetsSound slots v
  unfolding count
  read_sound v x r E new S =
      sets_stay u v slots (entered_stay u v x r E) (ap (at_most 48) (field_same Reads 10 u v E.other 11 (λ e. absurd (omega arith))))
      (set_same Reads 10 u v E.other Writes (λ e. absurd (omega arith))) (all_behind slots u v Reads 10 x r E new S.read) S

-- a set that has room
pub room : (limit n : ℕ) → at_most limit n < limit → n < limit
room limit n = go (leb n limit) refl
  where
    go : (b : Bool) → leb n limit ≡ b → cond b n limit < limit → n < limit
    go true e l = l
    go false e l = absurd (omega arith)

-- by the client's own step, which does not read object 97
module _ (u : ClientWord → ℕ) (x : ℕ) (r : Node) (w : Sized r) where
  -- what holds with the object behind the others, and without it, holds then
  pub read_or_not : (P : (ClientWord → ℕ) → Type 0) → ((v : ClientWord → ℕ) → ReadEntered u v x r → P v) → P u → P (changed client_words u (enter_read x r u))
  unfolding enter_read nothing changed count
  read_or_not P enters stays = go (ltb (count u Reads) 96) refl
    where
      go : (b : Bool) → ltb (count u Reads) 96 ≡ b → P (changed client_words u (enter_read x r u))
      go true e = enters (changed client_words u (enter_read x r u)) (read_entered u x r w (room 96 (u reads_count) (ltb-true (count u Reads) 96 e)))
      go false e = rw e stays

-- ---- COPIES
flag_fits : (d : Bool) → leb (first_slot (single 0 (one_if d))) 1 ≡ true
unfolding single made pad
flag_fits true = refl
flag_fits false = refl

module _ (slots : ℕ) (u : ClientWord → ℕ) where
  -- a copy that is found is sound
  pub copied_sound : CopiesSound slots u → (x : ℕ) → is_found (copied u x).how ≡ true → Sound slots x (copied u x).node
  unfolding copied copied_meta copied_node copied_flag count number_at record_in_range
  copied_sound C x h = go (eqb x 0) refl (leb x 8192) refl h
    where
      of_meta : x ≡ 0 → (c : Bool) → eqb (u meta_states) 0 ≡ c → is_found (cond c lacking (copy (metadata (u meta_version) (u meta_root) (u meta_states)))).how ≡ true
          → Sound slots x (cond c lacking (copy (metadata (u meta_version) (u meta_root) (u meta_states)))).node
      of_meta e true t h = absurd (false≢true h)
      of_meta e false t h = subst (λ (y : ℕ). Sound slots y (metadata (u meta_version) (u meta_root) (u meta_states))) (sym e) (C.meta_copy (eqb-false (u meta_states) 0 t))

      of_node : eqb x 0 ≡ false → leb x 8192 ≡ true → (f : Found) → find u Copies x ≡ f → is_found (copied_item u f).how ≡ true → Sound slots x (copied_item u f).node
      of_node a b (Some i) e h =
          let f = found_at u Copies x i e in
          let n = (C.copies i f.0 (λ q. eqb-false x 0 a (sym f.1 ∙ q))).sound in
          record { fitting = rw (a, b) n.range; children = rw (a, b) n.children }
      of_node a b None e h = absurd (false≢true h)

      of_flag : eqb x 0 ≡ false → leb x 8192 ≡ false → (c d : Bool) → is_found (cond c lacking (copy (single 0 (one_if d)))).how ≡ true
          → Sound slots x (cond c lacking (copy (single 0 (one_if d)))).node
      of_flag a b true d h = absurd (false≢true h)
      of_flag a b false d h = record { fitting = rw (a, b) (flag_fits d); children = rw (a, b) refl }

      go : (a : Bool) → eqb x 0 ≡ a → (b : Bool) → leb x 8192 ≡ b → is_found (cond a (copied_meta u) (cond b (copied_node u x) (copied_flag u (x - 8193)))).how ≡ true
          → Sound slots x (cond a (copied_meta u) (cond b (copied_node u x) (copied_flag u (x - 8193)))).node
      go true a b q h = of_meta (eqb-true x 0 a) (eqb (u meta_states) 0) refl h
      go false a true q h = of_node a q (find u Copies x) refl h
      go false a false q h =
          let n = x - 8193 in
          of_flag a q (eqb (u (vector_word (N.server_of n) 0)) 0) (bit (u (vector_word (N.server_of n) (1 + N.slot_of n / 64))) (N.slot_of n % 64)) h

  -- each of these objects is one of the store, and its copy is found
  abbrev pub AllCopied : List ℕ → Type 0
  AllCopied us = Every (λ (x : ℕ). (number_in_store slots x ≡ true) × (is_found (copied u x).how ≡ true)) us

-- ---- "what is used enters the read set"
module _ (u : ClientWord → ℕ) where
  -- what holds before and stays as each copy enters holds after; and all but the read set is the same
  pub used_keeps : (Q : ℕ → Type 0) (R : (ClientWord → ℕ) → Type 0)
      → ((x : ℕ) → Q x → (m v : ClientWord → ℕ) → ElseSame u m → ReadEntered m v x (copied u x).node → R m → R v)
      → (us : List ℕ) → Every Q us → R u → R (after_used u us) × ElseSame u (after_used u us)
  unfolding used_enter enter_used enter_nth enter_copy
  used_keeps Q R step us all r =
      sweep_keeps client_words (λ v. R v × ElseSame u v) (enter_nth (length us ∷ us)) (length us) one u (r, λ a p q. refl)
    where
      one : (i : ℕ) (m : ClientWord → ℕ) → i < length us → R m × ElseSame u m
          → R (changed client_words m (enter_nth (length us ∷ us) i m)) × ElseSame u (changed client_words m (enter_nth (length us ∷ us) i m))
      one i m l h =
          let x = get_or us i 0 in
          let n : i + 1 ≡ suc i = omega arith in
          let e : enter_nth (length us ∷ us) i m ≡ enter_read x (copied u x).node m
          = ap (λ (j : ℕ). enter_copy (get_or (length us ∷ us) j 0) m) n ∙ ap (λ (c : Look). enter_read x c.node m) (copied_same u m h.1 x) in
          subst (λ ps. R (changed client_words m ps) × ElseSame u (changed client_words m ps)) (sym e)
          (read_or_not m x (copied u x).node (copied_sized u x) (λ v. R v × ElseSame u v)
          (λ v E. (step x (every_at Q 0 us all i l) m v h.1 E h.0, λ a p q. E.other a p q ∙ h.1 a p q)) h)
