-- What an apply stores at a server leaves it sound: what is written is in range, and so is the version that it gets.
use Rattle.std.specs.Prelude.{◌≡◌, Bool, cond, ◌&&◌, not, List, [], ◌∷◌, eqb, leb, ltb}
use Rattle.std.proofs.Math.Path.{refl, subst, fun_ext}
use Rattle.std.proofs.Common.{ap, sym, ◌∙◌, arith}
use Rattle.std.proofs.Math.Bool.{true, false, and-false}
use Prim.Native.Nat.{ℕ, zero, suc, ◌-◌, ◌≤◌, ◌<◌}
use Rattle.std.proofs.Math.Decide.{ℕ_discrete}
use borrow.Author.Tests.{eqb-true, leb-true, ltb-true, le-leb}
use Rattle.std.proofs.Math.ListN.{get_or}
use Rattle.base.specs.Test.{and_both}
use Rattle.layout.specs.Space.{Put, put, written, changed, puts, tab}
use Rattle.layout.proofs.Laws.Space.{written_same, written_other, decide, puts_apart, puts_other, tab_puts_same}
use Rattle.layout.specs.Step.{and_then}
use Rattle.layout.proofs.Laws.Step.{changed_append}
use Rattle.nodes.specs.Lists.{pad}
use Rattle.nodes.specs.States.{present, states_fit, metadata_fits}
use Rattle.nodes.specs.Node.{made, free_node, slots_of}
use Rattle.nodes.specs.Range.{level_fits, count_fits, node_in_range}
use Rattle.nodes.specs.Stored.{node_of, words_of}
use Rattle.nodes.proofs.Laws.Stored.{Sized, length_words, node_words}
use Rattle.server.specs.declared.place.Place.{Place}
use Rattle.server.specs.declared.place.Place.TheVariants.{Root, Version, States, MetadataLock, Vector, Node, FlagLock, Table, NodeLock}
use Rattle.server.specs.Layout.{place_code, place_again, places}
use Rattle.nodes.specs.Object.{named}
use Rattle.server.specs.Store.{kept_of, versions_row, versions_step, metadata_step, flag_step, home_step, table_step, node_step}
use Rattle.client.specs.declared.part.Set.TheVariants.{Writes}
use Rattle.client.specs.Layout.{ClientWord}
use Rattle.client.specs.Record.{first_slot, second_slot, metadata, in_store, record_in_range, last_version, children_there}
use Rattle.client.specs.Sets.{count, record_at, number_at}
use Rattle.client.specs.Items.{inner_before_after}
use Rattle.client.specs.Participants.{at_home}
use Rattle.client.specs.Drops.{next_version}
use Rattle.client.specs.Renew.{versioned}
use Rattle.steps.specs.Steps.{store_write, store_all, unlock_each, node_at}
use Rattle.steps.proofs.Laws.Writes.{kept_sized}
use Rattle.demand.proofs.Laws.Frame.{then_keeps, sweep_keeps, Only, only_append, only_keeps}
use Rattle.demand.proofs.Laws.Placed.{record_sized}
use Rattle.ranges.specs.Laws.Sound.{NodeSound, Sound, SetsSound, ServerSound}
use Rattle.ranges.proofs.Laws.Servers.{unlock_each_sound}
use Rattle.nodes.specs.declared.node.Node as Record
use Rattle.nodes.specs.Name as N

module _ (slots : ℕ) where
  -- ---- the metadata: its root is there, and the servers' states fit; and by its three words
  pub fits_parts : (v r st : ℕ) → metadata_fits slots r st v ≡ true → (in_store slots r ≡ true) × (v ≤ last_version) × (states_fit st ≡ true)
  unfolding metadata_fits
  fits_parts v r st h =
      let p = and_both (in_store slots r) (leb v last_version && states_fit st) h in
      let q = and_both (leb v last_version) (states_fit st) p.1 in
      (p.0, leb-true v last_version q.0, q.1)

  pub root_and_states : (r : Record.Node) → Sound slots 0 r → (in_store slots (first_slot r) ≡ true) × (states_fit (second_slot r) ≡ true)
  unfolding record_in_range
  root_and_states r h = let p = fits_parts r.version (first_slot r) (second_slot r) h.fitting in (p.0, p.2)

  pub metadata_of : (v r st : ℕ) → v ≤ last_version → (in_store slots r ≡ true) × (states_fit st ≡ true) → Sound slots 0 (metadata v r st)
  unfolding record_in_range metadata_fits metadata made pad
  metadata_of v r st h there = record { fitting = rw (there.0, le-leb v last_version h, there.1); children = refl }

  pub metadata_parts : (v r st : ℕ) → Sound slots 0 (metadata v r st) → (in_store slots r ≡ true) × (v ≤ last_version) × (states_fit st ≡ true)
  unfolding record_in_range metadata made pad
  metadata_parts v r st h = fits_parts v r st h.fitting

  pub few_states : (v r st : ℕ) → Sound slots 0 (metadata v r st) → st < 65536
  unfolding states_fit
  few_states v r st h = ltb-true st 65536 (and_both (ltb st 65536) (not (eqb (present st) 0)) (metadata_parts v r st h).2).0

  -- ---- a node with another version
  pub versioned_sound : (r : Record.Node) (v : ℕ) → v ≤ last_version → NodeSound slots r → NodeSound slots (versioned r v)
  unfolding versioned node_in_range children_there slots_of
  versioned_sound r v l h =
      let rest = level_fits r.kind r.level && count_fits r.kind r.count in
      let a = and_both (leb r.kind 2) (leb r.version last_version && rest) h.range in
      let b = and_both (leb r.version last_version) rest a.1 in
      record { range = rw (a.0, le-leb v last_version l, b.1); children = h.children }

  -- as it is kept: freed, nothing else
  kept_sound : (r : Record.Node) (v : ℕ) → NodeSound slots r → v ≤ last_version → NodeSound slots (kept_of r v)
  unfolding kept_of versioned free_node made pad node_in_range children_there
  kept_sound r v h l = go (eqb r.kind 0)
    where
      go : (b : Bool) → NodeSound slots (cond b (free_node v) (versioned r v))
      go true = record { range = rw (le-leb v last_version l); children = refl }
      go false = versioned_sound r v l h

  module _ (s : ℕ) where
    -- ---- a store at one word: of the metadata, a table's entry, a vector
    unfoldable Harmless : Place → ℕ → Type 0
    Harmless Root v = in_store slots v ≡ true
    Harmless Version v = v ≤ last_version
    Harmless States v = states_fit v ≡ true
    Harmless MetadataLock v = ⊥
    Harmless (Vector i) v = Unit {0}
    Harmless (Node k i) v = ⊥
    Harmless (FlagLock k) v = ⊥
    Harmless (Table t k) v = v ≤ last_version
    Harmless (NodeLock t k) v = ⊥

    module _ (p : Place → ℕ) (a : Place) (v : ℕ) (h : Harmless a v) where
      abbrev q : Place → ℕ
      q = written places p a v

      -- a word in range stays so; one at which there is no such store stays as it was
      still : (x : Place) → Harmless x (p x) → Harmless x (q x)
      still x was = go (decide places place_again x a)
        where
          go : Dec (x ≡ a) → Harmless x (q x)
          go (yes e) = subst (λ (y : Place). Harmless y (q y)) (sym e) (subst (Harmless a) (sym (written_same places p a v)) h)
          go (no n) = subst (Harmless x) (sym (written_other places place_again p a v x n)) was

      same : (x : Place) → ((w : ℕ) → ¬ (Harmless x w)) → q x ≡ p x
      same x n = written_other places place_again p a v x (λ e. n v (subst (λ (y : Place). Harmless y v) (sym e) h))

      store_sound : ServerSound slots s p → ServerSound slots s q
      unfolding Harmless node_at
      store_sound sound =
          let m = metadata_parts (p Version) (p Root) (p States) sound.metadata in
          record {
            metadata = metadata_of (q Version) (q Root) (q States) (still Version m.1) (still Root m.0, still States m.2);
            nodes = λ n i e. subst (λ (f : ℕ → ℕ). NodeSound slots (node_of (tab 33 f))) (sym (fun_ext (λ i. same (Node (N.slot_of n) i) (λ w b. b)))) (sound.nodes n i e);
            tables = λ n i. still (Table (N.server_of n) (N.slot_of n)) (sound.tables n i);
          }

    stores_sound : (ps : List (Put Place)) (p : Place → ℕ) → Only places Harmless ps → ServerSound slots s p → ServerSound slots s (changed places p ps)
    stores_sound = only_keeps places Harmless (ServerSound slots s) store_sound

    -- ---- a node's words
    module _ (k : ℕ) (r : Record.Node) (whole : Sized r) (good : NodeSound slots r) (p : Place → ℕ) (sound : ServerSound slots s p) where
      abbrev p' : Place → ℕ
      p' = changed places p (puts places (Node k) (words_of r))

      stored : node_of (tab 33 (λ i. p' (Node k i))) ≡ r
      stored = ap node_of (tab_puts_same places place_again 33 (words_of r) p (Node k) (length_words r whole) (λ i j e. ap (λ (a : Place). get_or (place_code a) 3 0) e)) ∙ node_words r whole

      node_sound : (n : ℕ) → in_store slots n ≡ true → N.server_of n ≡ s → NodeSound slots (node_at p' n)
      unfolding node_at
      node_sound n i e = go (ℕ_discrete (N.slot_of n) k)
        where
          go : Dec (N.slot_of n ≡ k) → NodeSound slots (node_of (tab 33 (λ i. p' (Node (N.slot_of n) i))))
          go (yes h) = subst (λ (t : ℕ). NodeSound slots (node_of (tab 33 (λ i. p' (Node t i))))) (sym h) (subst (NodeSound slots) (sym stored) good)
          go (no d) =
              subst (λ (f : ℕ → ℕ). NodeSound slots (node_of (tab 33 f)))
              (sym (fun_ext (λ i. puts_other places place_again (words_of r) p (Node k) (Node (N.slot_of n) i) (λ j l q. d (ap (λ (a : Place). get_or (place_code a) 1 0) q)))))
              (sound.nodes n i e)

      words_sound : ServerSound slots s p'
      words_sound =
          let beside = puts_apart places (words_of r) p (Node k) in
          record {
            metadata = subst (Sound slots 0) (sym (λ i. metadata (beside Version (λ i. refl) i) (beside Root (λ i. refl) i) (beside States (λ i. refl) i))) sound.metadata;
            nodes = node_sound;
            tables = λ n i. subst (λ (v : ℕ). v ≤ last_version) (sym (beside (Table (N.server_of n) (N.slot_of n)) (λ i. simp and-false))) (sound.tables n i);
          }

    -- ---- the version table of an added server
    module _ (v : ℕ → ℕ → ℕ) (young : (t i : ℕ) → t < 8 → i < slots → v t i ≤ last_version) where
      row_within : (i n : ℕ) → i < slots → n ≤ 8 → Only places Harmless (versions_row v i n)
      unfolding versions_row Only Harmless
      row_within i zero l h = tt
      row_within i (suc n) l h = only_append places Harmless (versions_row v i n) (put (Table n i) (v n i) ∷ []) (row_within i n l (omega arith)) (young n i (omega arith) l, tt)

      table_within : (n : ℕ) → n ≤ slots → Only places Harmless (versions_step v n)
      unfolding versions_step Only
      table_within zero l = tt
      table_within (suc n) l = only_append places Harmless (versions_step v n) (versions_row v n 8) (table_within n (omega arith)) (row_within n 8 (omega arith) (omega arith))

      pub table_stored : (p : Place → ℕ) → ServerSound slots s p → ServerSound slots s (changed places p (versions_step v slots))
      table_stored p = stores_sound (versions_step v slots) p (table_within slots (omega arith))

    -- ---- a write, of metadata, a node, a flag
    module _ (p : Place → ℕ) (sound : ServerSound slots s p) where
      pub metadata_stored : (r st v : ℕ) → (in_store slots r ≡ true) × (states_fit st ≡ true) → v ≤ last_version → ServerSound slots s (changed places p (metadata_step r st v p))
      unfolding metadata_step Only Harmless
      metadata_stored r st v there l = stores_sound (metadata_step r st v p) p (there.0, (l, (there.1, tt))) sound

      flag_stored : (h t : Bool) (n : ℕ) → ServerSound slots s (changed places p (cond h (flag_step (named n) t p) []))
      unfolding flag_step Only Harmless changed
      flag_stored true t n = stores_sound (flag_step (named n) t p) p (tt, tt) sound
      flag_stored false t n = sound

      home_stored : (h : Bool) (k : ℕ) (r : Record.Node) → Sized r → NodeSound slots r → ServerSound slots s (changed places p (cond h (puts places (Node k) (words_of r)) []))
      unfolding changed
      home_stored true k r whole good = words_sound k r whole good p sound
      home_stored false k r whole good = sound

      node_stored : (n : ℕ) (r : Record.Node) (v : ℕ) (b : Bool) → Sized r → NodeSound slots r → v ≤ last_version
          → ServerSound slots s (changed places p (node_step s (named n) r v b p))
      unfolding node_step home_step table_step Only Harmless
      node_stored n r v b whole good l =
          subst (ServerSound slots s) (sym (changed_append places (home_step s (named n) (kept_of r v) p) (table_step (named n) v b p) p))
          (stores_sound (table_step (named n) v b p) (changed places p (home_step s (named n) (kept_of r v) p)) (entry b)
          (home_stored (eqb (N.server_of n) s) (N.slot_of n) (kept_of r v) (kept_sized r v whole) (kept_sound r v good l)))
        where
          entry : (b : Bool) → Only places Harmless (table_step (named n) v b p)
          entry true = (l, tt)
          entry false = tt

    -- ---- THE APPLY: the writes, and then the locks
    module _ (u : ClientWord → ℕ) (sets : SetsSound slots u) where
      write_sound : (i : ℕ) → i < count u Writes → (p : Place → ℕ) → ServerSound slots s p → ServerSound slots s (changed places p (store_write u s i p))
      unfolding record_in_range next_version
      write_sound i l p sound = go (eqb x 0) refl (leb x 8192) refl (sets.written i l).sound.fitting (sets.written i l).sound.children
        where
          x : ℕ
          x = number_at u Writes i

          r : Record.Node
          r = record_at u Writes i

          -- "a written version becomes the one read plus 1"
          version : x ≤ 8192 → next_version u x ≤ last_version
          version h = sets.young i l h

          go : (a : Bool) → eqb x 0 ≡ a → (b : Bool) → leb x 8192 ≡ b
              → cond a (metadata_fits slots (first_slot r) (second_slot r) r.version) (cond b (node_in_range r) (leb (first_slot r) 1)) ≡ true
              → cond a true (cond b (children_there slots r) true) ≡ true
              → ServerSound slots s (changed places p (cond a (metadata_step (first_slot r) (second_slot r) (next_version u x) p)
              (cond b (node_step s (named (x - 1)) r (next_version u x) (inner_before_after u x) p)
              (cond (at_home s x) (flag_step (named (x - 8193)) (eqb (first_slot r) 1) p) []))))
          go true e b f h g =
              metadata_stored p sound (first_slot r) (second_slot r) (next_version u x) (let f = fits_parts r.version (first_slot r) (second_slot r) h in (f.0, f.2))
              (version (let q = eqb-true x 0 e in omega arith))
          go false e true f h g =
              node_stored p sound (x - 1) r (next_version u x) (inner_before_after u x) (record_sized u Writes i) (record { range = h; children = g })
              (version (leb-true x 8192 f))
          go false e false f h g = flag_stored p sound (at_home s x) (eqb (first_slot r) 1) (x - 8193)

      module _ (p : Place → ℕ) (sound : ServerSound slots s p) where
        applied_sound : ServerSound slots s (changed places p (store_all u s p))
        applied_sound = sweep_keeps places (ServerSound slots s) (store_write u s) (count u Writes) (λ i q l. write_sound i l q) p sound

        pub apply_sound : (c low : ℕ) → ServerSound slots s (changed places p (and_then places (store_all u s) (unlock_each u c low s) p))
        apply_sound c low = then_keeps places (ServerSound slots s) (store_all u s) (unlock_each u c low s) p applied_sound (λ q. unlock_each_sound slots s u c low s q)
