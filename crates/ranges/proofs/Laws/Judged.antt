-- WHAT EACH RULE READS OF ITS CLIENT'S PART (refusal 10): where the part is sound, it is in range.
use Rattle.std.specs.Prelude.{◌≡◌, Bool, ◌&&◌, ◌||◌, get_or}
use Rattle.std.proofs.Math.Path.{refl, subst}
use Rattle.std.proofs.Common.{sym, ◌∙◌, arith}
use Rattle.std.proofs.Math.Bool.{true, false, cond, not}
use Rattle.std.proofs.lemmas.Bool.{false≢true}
use mathlib.Core.List.{List, [], ◌∷◌}
use Prim.Native.Nat.{ℕ, zero, suc, ◌-◌, ◌≤◌, ◌<◌}
use borrow.Author.Tests.{eq-eqb, eqb-false, leb-false, le-leb, lt-leb, ltb-true, ltb-false, lt-ltb, ne_eqb}
use Rattle.std.proofs.Math.Dec.{eqb, leb, ltb}
use Rattle.base.specs.Test.{and_both, not_both}
use Rattle.base.proofs.Laws.Test.{or_right}
use Rattle.layout.specs.Space.{tab}
use Rattle.nodes.specs.declared.node.Node.{Node}
use Rattle.nodes.specs.Found.{Found}
use Rattle.std.specs.Prelude.{Some, None}
use Rattle.nodes.specs.Range.{level_fits, count_fits, node_in_range}
use Rattle.nodes.specs.States.{states_fit, metadata_fits}
use Rattle.nodes.specs.Stored.{node_of}
use Rattle.client.specs.Have.{Look}
use Rattle.client.specs.declared.part.Set.TheVariants.{Reads, Writes, Copies}
use Rattle.client.specs.Layout.{ClientWord, field, item, vector_word, lost}
use Rattle.client.specs.Record.{first_slot, second_slot, number_in_store, last_version, record_in_range, children_there, node_fits, whole_in_range, kind_in_range}
use Rattle.client.specs.Sets.{count, record_at, number_at, find}
use Rattle.client.specs.Commit.{is_at}
use Rattle.client.specs.Items.{any_below, has, inner, of_record}
use Rattle.client.specs.Participants.{at_home, calls_all, states_in, states_read}
use Rattle.client.specs.Drops.{version_of}
use Rattle.client.specs.Vectors.{flag_fits, flags_fit, vector_fits}
use Rattle.client.specs.Have.{lacking, is_found, copied_meta, copied_item, copied_node, copied_flag, copied, copy_fits}
use Rattle.client.specs.Lent.{Entry}
use Rattle.client.specs.Work.{version_there, versions_there}
use Rattle.client.specs.Laws.Ranges.{bounds}
use Rattle.demand.proofs.Laws.Held.{every_below, found_at, has_at}
use Rattle.demand.proofs.Laws.Behind.{absent_has}
use Rattle.ranges.specs.Laws.Sound.{Sound, PartSound}
use Rattle.ranges.proofs.Laws.Sets.{sound_version}
use Rattle.ranges.proofs.Laws.Stored.{root_and_states}
use Rattle.nodes.specs.Name as N
use Rattle.client.specs.Fits as F

-- ---- a sound record: its kind, and where it is stored whole
module _ (slots : ℕ) (x : ℕ) (r : Node) (h : Sound slots x r) where
  pub kind_judged : kind_in_range x r ≡ true
  unfolding kind_in_range record_in_range node_in_range
  kind_judged = go (eqb x 0) (leb x 8192) h.fitting
    where
      go : (a b : Bool) → cond a (metadata_fits slots (first_slot r) (second_slot r) r.version) (cond b (node_in_range r) (leb (first_slot r) 1)) ≡ true
          → cond a true (cond b (leb r.kind 2) true) ≡ true
      go true b q = refl
      go false true q = (and_both (leb r.kind 2) (leb r.version last_version && (level_fits r.kind r.level && count_fits r.kind r.count)) q).0
      go false false q = refl

  pub whole_judged : whole_in_range slots x r ≡ true
  unfolding whole_in_range node_fits record_in_range
  whole_judged = go (eqb x 0) (leb x 8192) (record_in_range slots x r) h.fitting h.fitting h.children
    where
      go : (a b w : Bool) → w ≡ true
          → cond a (metadata_fits slots (first_slot r) (second_slot r) r.version) (cond b (node_in_range r) (leb (first_slot r) 1)) ≡ true
          → cond a true (cond b (children_there slots r) true) ≡ true → cond a w (cond b (node_in_range r && children_there slots r) w) ≡ true
      go true b w e q c = e
      go false true w e q c = rw (q, c)
      go false false w e q c = e

  -- a flag's is 0 or 1
  flag_judged : 8193 ≤ x → leb (first_slot r) 1 ≡ true
  unfolding record_in_range
  flag_judged l = let f = h.fitting in rw (ne_eqb x 0 (λ e. absurd (omega arith)), lt-leb x 8192 (omega arith)) at f

-- a flag's server is one of the store
flag_near : (slots x : ℕ) → 8193 ≤ x → number_in_store slots x ≡ true → N.server_of (x - 8193) < 8
unfolding number_in_store N.name_in_store
flag_near slots x l h =
    let n = x - 8193 in
    let there : (ltb (N.server_of n) 8 && ltb (N.slot_of n) slots) ≡ true = rw (ne_eqb x 0 (λ e. absurd (omega arith)), lt-leb x 8192 (omega arith)) at h in
    ltb-true (N.server_of n) 8 (and_both (ltb (N.server_of n) 8) (ltb (N.slot_of n) slots) there).0

module _ (slots : ℕ) (u : ClientWord → ℕ) (P : PartSound slots u) where
  within : (i : ℕ) → i < 13 → leb (u (field i)) (get_or bounds i 0) ≡ true
  within i l = le-leb (u (field i)) (get_or bounds i 0) (P.fields.within i l)

  -- a set of servers
  below : (i : ℕ) → get_or bounds i 0 ≡ 255 → i < 13 → ltb (u (field i)) 256 ≡ true
  below i e l = lt-ltb (u (field i)) 256 (omega (arith, e, P.fields.within i l))

  -- ---- which objects are read and written, and their kinds
  reads_judged : F.numbers_fit slots u Reads ≡ true
  unfolding F.numbers_fit F.number_fits
  reads_judged = rw (within 10 (omega arith), every_below (count u Reads) (F.number_fits slots u Reads) (λ i l. (P.sets.read i l).inside))

  writes_judged : F.numbers_fit slots u Writes ≡ true
  unfolding F.numbers_fit F.number_fits
  writes_judged = rw (within 11 (omega arith), every_below (count u Writes) (F.number_fits slots u Writes) (λ i l. (P.sets.written i l).inside))

  pub read_kind : (i : ℕ) → i < count u Reads → kind_in_range (number_at u Reads i) (record_at u Reads i) ≡ true
  read_kind i l = kind_judged slots (number_at u Reads i) (record_at u Reads i) (P.sets.read i l).sound

  write_kind : (i : ℕ) → i < count u Writes → kind_in_range (number_at u Writes i) (record_at u Writes i) ≡ true
  write_kind i l = kind_judged slots (number_at u Writes i) (record_at u Writes i) (P.sets.written i l).sound

  -- as it is written, if it is
  pub written_kind : (x : ℕ) → (not (has u Writes x) || of_record u Writes (kind_in_range x) (find u Writes x)) ≡ true
  unfolding has
  written_kind x = go (find u Writes x) refl
    where
      go : (f : Found) → find u Writes x ≡ f → (not (is_at f) || of_record u Writes (kind_in_range x) f) ≡ true
      go (Some i) e = let f = found_at u Writes x i e in subst (λ (y : ℕ). kind_in_range y (record_at u Writes i) ≡ true) f.1 (write_kind i f.0)
      go None e = refl

  -- ---- what is written: whole, and its version has a next one
  whole : (i : ℕ) → i < count u Writes → whole_in_range slots (number_at u Writes i) (record_at u Writes i) ≡ true
  whole i l = whole_judged slots (number_at u Writes i) (record_at u Writes i) (P.sets.written i l).sound

  young_judged : (i : ℕ) → i < count u Writes → F.young u (number_at u Writes i) ≡ true
  unfolding F.young
  young_judged i l = go (ltb 8192 x) refl
    where
      x : ℕ
      x = number_at u Writes i

      go : (b : Bool) → ltb 8192 x ≡ b → (b || ltb (version_of u (find u Reads x)) last_version) ≡ true
      go true e = refl
      go false e = lt-ltb (version_of u (find u Reads x)) last_version (P.sets.young i l (ltb-false 8192 x e))

  read_judged : (i : ℕ) → i < count u Writes → F.is_read u i ≡ true
  unfolding F.is_read
  read_judged i l = P.sets.written_read i l

  -- a transaction that all take part in has read the metadata
  servers_judged : F.servers_known u ≡ true
  unfolding F.servers_known states_read any_below
  servers_judged = go (count u Writes) refl
    where
      read : (f : Found) → find u Reads 0 ≡ f → has u Reads 0 ≡ true → states_fit (states_in u f) ≡ true
      read (Some i) e h =
          let f = found_at u Reads 0 i e in
          (root_and_states slots (record_at u Reads i) (subst (λ (x : ℕ). Sound slots x (record_at u Reads i)) f.1 (P.sets.read i f.0).sound)).1
      read None e h = absurd (not_both h (absent_has u Reads 0 e))

      go : (n : ℕ) → count u Writes ≡ n → (not (any_below n (calls_all u)) || states_fit (states_in u (find u Reads 0))) ≡ true
      go zero e = refl
      go (suc n) e = or_right (not (any_below (suc n) (calls_all u))) _ (read (find u Reads 0) refl (P.sets.rooted n (omega (arith, e))))

  -- ---- THE RULES
  pub fits_to_work : F.fit_to_work slots u ≡ true
  unfolding F.fit_to_work
  fits_to_work = rw (P.fields.op, reads_judged, writes_judged)

  pub fits_to_commit : F.fit_to_commit slots u ≡ true
  unfolding F.fit_to_commit F.kind_fits
  fits_to_commit =
      rw (
        reads_judged,
        writes_judged,
        every_below (count u Reads) (F.kind_fits u Reads) read_kind,
        every_below (count u Writes) (F.kind_fits u Writes) write_kind,
        every_below (count u Writes) (F.is_read u) read_judged,
        servers_judged,
      )

  pub fits_to_prepare : F.fit_to_prepare slots u ≡ true
  unfolding F.fit_to_prepare F.servers_fit
  fits_to_prepare = rw (below 5 refl (omega arith), below 6 refl (omega arith), reads_judged, writes_judged)

  pub fits_to_abort : F.fit_to_abort slots u ≡ true
  unfolding F.fit_to_abort F.servers_fit
  fits_to_abort = rw (below 6 refl (omega arith), reads_judged)

  pub fits_to_unlock : F.fit_to_unlock slots u ≡ true
  unfolding F.fit_to_unlock F.servers_fit
  fits_to_unlock = rw (below 5 refl (omega arith), writes_judged)

  write_judged : (s i : ℕ) → i < count u Writes → F.write_fits slots u s i ≡ true
  unfolding F.write_fits F.read_fits F.stored_record_fits F.version_fits
  write_judged s i l =
      let x = number_at u Writes i in
      rw (or_right (ltb 8192 x) (F.is_read u i) (read_judged i l), or_right (not (at_home s x)) (whole_in_range slots x (record_at u Writes i)) (whole i l))
      (or_right (not (F.stored_at u s x)) (F.young u x) (young_judged i l))

  renewal_judged : (i : ℕ) → i < count u Writes → F.renewal_fits slots u i ≡ true
  unfolding F.renewal_fits F.flag_renewal_fits F.inner_renewal_fits
  renewal_judged i l = go (ltb 8192 x) refl
    where
      x : ℕ
      x = number_at u Writes i

      s : ℕ
      s = N.server_of (x - 8193)

      go : (b : Bool) → ltb 8192 x ≡ b
          → cond b ((ltb s 8 && leb (u (vector_word s 0)) 1) && whole_in_range slots x (record_at u Writes i))
          (not (inner x (record_at u Writes i)) || (whole_in_range slots x (record_at u Writes i) && F.young u x)) ≡ true
      go true e =
          let near = flag_near slots x (ltb-true 8192 x e) (P.sets.written i l).inside in
          rw (lt-ltb s 8 near, le-leb (u (vector_word s 0)) 1 (P.copies.vectors s near), whole i l)
      go false e = or_right (not (inner x (record_at u Writes i))) _ (rw (whole i l, young_judged i l))

  pub fits_to_apply : (s : ℕ) (last : Bool) → F.fit_to_apply slots u s last ≡ true
  unfolding F.fit_to_apply F.writes_fit F.fit_to_renew F.servers_fit
  fits_to_apply s last =
      rw (below 7 refl (omega arith), reads_judged, fits_to_unlock, every_below (count u Writes) (F.write_fits slots u s) (write_judged s), within 9 (omega arith))
      (or_right (not last) _ (or_right (eqb (u lost) 1) _ (every_below (count u Writes) (F.renewal_fits slots u) renewal_judged)))

  -- ---- what work reads on its way: vectors, with what is counted in them; copies; and the versions of what would be written
  pub vector_judged : (s : ℕ) → s < 8 → vector_fits u s ≡ true
  unfolding vector_fits flags_fit flag_fits record_at node_of tab
  vector_judged s l = rw (le-leb (u (vector_word s 0)) 1 (P.copies.vectors s l)) (every_below (count u Writes) (flag_fits u s) one)
    where
      one : (i : ℕ) → i < count u Writes → flag_fits u s i ≡ true
      one i h = go (ltb (number_at u Writes i) 8193) refl
        where
          go : (b : Bool) → ltb (number_at u Writes i) 8193 ≡ b → ((b || not (eqb (N.server_of (number_at u Writes i - 8193)) s)) || leb (u (item Writes i 19)) 1) ≡ true
          go true e = refl
          go false e =
              or_right (not (eqb (N.server_of (number_at u Writes i - 8193)) s)) _
              (flag_judged slots (number_at u Writes i) (record_at u Writes i) (P.sets.written i h).sound (ltb-false (number_at u Writes i) 8193 e))

  -- a copy that is found
  pub copy_judged : (x : ℕ) → number_in_store slots x ≡ true → is_found (copied u x).how ≡ true → copy_fits u x (copied u x).node ≡ true
  unfolding copied copied_meta copied_node copied_flag copy_fits count number_at
  copy_judged x hi h = go (eqb x 0) refl (leb x 8192) refl h
    where
      -- the word that says so is 1 where it is not 0
      one : (w : ℕ) (l : Look) → w ≤ 1 → (b : Bool) → eqb w 0 ≡ b → is_found (cond b lacking l).how ≡ true → eqb w 1 ≡ true
      one w l q true e h = absurd (false≢true h)
      one w l q false e h = eq-eqb w 1 (omega (arith, q, eqb-false w 0 e))

      of_node : eqb x 0 ≡ false → (f : Found) → find u Copies x ≡ f → is_found (copied_item u f).how ≡ true → eqb (copied_item u f).node.kind 2 ≡ true
      of_node a (Some i) e h =
          let f = found_at u Copies x i e in
          eq-eqb (record_at u Copies i).kind 2 (P.copies.copies i f.0 (λ q. eqb-false x 0 a (sym f.1 ∙ q))).inner
      of_node a None e h = absurd (false≢true h)

      s : ℕ
      s = N.server_of (x - 8193)

      go : (a : Bool) → eqb x 0 ≡ a → (b : Bool) → leb x 8192 ≡ b → is_found (cond a (copied_meta u) (cond b (copied_node u x) (copied_flag u (x - 8193)))).how ≡ true
          → cond a true (cond b (eqb (cond a (copied_meta u) (cond b (copied_node u x) (copied_flag u (x - 8193)))).node.kind 2) (eqb (u (vector_word s 0)) 1)) ≡ true
      go true a b q h = refl
      go false a true q h = of_node a (find u Copies x) refl h
      go false a false q h =
          one (u (vector_word s 0)) _ (P.copies.vectors s (flag_near slots x (leb-false x 8192 q) hi)) (eqb (u (vector_word s 0)) 0) refl h

  version_judged : (x : ℕ) → x ≤ 8192 → version_there u x (find u Reads x) ≡ true
  version_judged x l = go (find u Reads x) refl
    where
      go : (f : Found) → find u Reads x ≡ f → version_there u x f ≡ true
      go (Some i) e =
          let f = found_at u Reads x i e in
          le-leb (record_at u Reads i).version last_version
          (sound_version slots x (record_at u Reads i) (subst (λ (y : ℕ). Sound slots y (record_at u Reads i)) f.1 (P.sets.read i f.0).sound) l)
      go None e = by (has u Writes x) refl
        where
          by : (b : Bool) → has u Writes x ≡ b → not b ≡ true
          by false t = refl
          by true t =
              let w = has_at u Writes x t in
              let f = found_at u Writes x w.0 w.1 in
              absurd (not_both (subst (λ (y : ℕ). has u Reads y ≡ true) f.1 (P.sets.written_read w.0 f.0)) (absent_has u Reads x e))

  pub versions_judged : (l : List Entry) → versions_there u l ≡ true
  unfolding versions_there
  versions_judged [] = refl
  versions_judged (e ∷ l) = rw (go (ltb 8192 e.0) refl) (versions_judged l)
    where
      go : (b : Bool) → ltb 8192 e.0 ≡ b → (b || version_there u e.0 (find u Reads e.0)) ≡ true
      go true t = refl
      go false t = version_judged e.0 (ltb-false 8192 e.0 t)
