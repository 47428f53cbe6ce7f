-- SERVERS COME AND GO: what a change reads is in range, and so is what it stores.
use Rattle.std.specs.Prelude.{◌≡◌, refl, Bool, cond, ◌&&◌, ◌||◌, not, []}
use Rattle.std.proofs.Common.{ap, sym, ◌∙◌}
use Rattle.std.proofs.Math.Path.{subst}
use Rattle.std.proofs.Math.Bool.{true, false}
use Prim.Native.Nat.{ℕ, zero, suc, ◌+◌, ◌*◌, ◌≤◌, ◌<◌, Fin}
use native.Mathlib.Omega.{arith}
use borrow.Author.Tests.{ne_eqb, le-leb, leb-false, lt-ltb}
use Rattle.std.proofs.Math.Dec.{eqb, leb}
use Rattle.base.specs.Test.{not_both}
use Rattle.base.proofs.Laws.Test.{or_right}
use Rattle.memory.specs.Bit.{bit, put_bit}
use Rattle.memory.proofs.Laws.Bit.{put_lt, zero_bit}
use Rattle.layout.specs.Space.{changed}
use Rattle.nodes.specs.States.{present, is_present, states_fit, with_added, with_closed, with_removed}
use Rattle.server.specs.declared.place.Place.{Place}
use Rattle.server.specs.declared.place.Place.TheVariants.{Root, Version, States, Table}
use Rattle.server.specs.Layout.{places}
use Rattle.server.specs.Store.{metadata_step, versions_step}
use Rattle.client.specs.Layout.{phase}
use Rattle.client.specs.Record.{in_store, last_version}
use Rattle.client.specs.Items.{all_below}
use Rattle.steps.specs.declared.sizes.Sizes.{Sizes}
use Rattle.steps.specs.declared.outcome.Outcome.TheVariants.{Done}
use Rattle.steps.specs.declared.step.ServerChange.{ServerChange}
use Rattle.steps.specs.declared.step.ServerChange.TheVariants.{Add, Close, Remove}
use Rattle.steps.specs.Whole.{Address, client, server}
use Rattle.steps.specs.Servers.{there, lowest_there, state_suits, any_taken, version_ends, larger, largest, largest_version, quiet, is_add, changed_states}
use Rattle.steps.proofs.Laws.Stores.{client_of, server_of}
use Rattle.demand.specs.Ledger.{Ledger}
use Rattle.demand.proofs.Laws.Shows.{T}
use Rattle.demand.proofs.Laws.Held.{every_below}
use Rattle.demand.proofs.Laws.Turns.{store, Good}
use Rattle.ranges.specs.Laws.Sound.{PartSound, ServerSound, SoundStore}
use Rattle.ranges.proofs.Laws.Stored.{metadata_parts, few_states, table_stored, metadata_stored}
use Rattle.ranges.proofs.Laws.Checks.{metadata_judged}
use Rattle.ranges.proofs.Laws.Locks.{goes_on_same, unstored}
use Rattle.ranges.proofs.Laws.Attended.{source_there}
use Rattle.ranges.proofs.Laws.Whole.{accepted, Kept, if_kept}
use Rattle.nodes.specs.Name as N
use Rattle.protocol.specs.Machine as P
use Rattle.steps.specs.Steps as Steps
use Rattle.demand.proofs.Laws.Coming as C

-- the largest of numbers is within what they are
largest_within : (p : ℕ → Bool) (f : ℕ → ℕ) (b n a : ℕ) → a ≤ b → ((u : ℕ) → u < n → f u ≤ b) → largest p f n a ≤ b
unfolding largest larger
largest_within p f b zero a l h = l
largest_within p f b (suc n) a l h = go (p n) (leb (largest p f n a) (f n)) (largest_within p f b n a l (λ u q. h u (omega arith)))
  where
    go : (c d : Bool) → largest p f n a ≤ b → cond c (cond d (f n) (largest p f n a)) (largest p f n a) ≤ b
    go true true r = h n (omega arith)
    go true false r = r
    go false d r = r

-- three states of eight servers
states_within : (x : ServerChange) (st s : ℕ) → s < 8 → st < 65536 → changed_states x st s < 65536
unfolding changed_states with_added with_closed with_removed
states_within Add st s l h = put_lt true 16 (put_bit true st s) (8 + s) (omega arith) (put_lt true 16 st s (omega arith) h)
states_within Close st s l h = put_lt false 16 st (8 + s) (omega arith) h
states_within Remove st s l h = put_lt false 16 st s (omega arith) h

module _ (k j slots : ℕ) (size : suc k ≤ 8) (al : slots ≤ 1024) (m : Address → ℕ) (S : SoundStore k j slots m) (L : Ledger) (M : P.Machine (T k j slots)) (G : Good k j slots m L M) (x : ServerChange) (s : ℕ) (near : s < 8) (suits : state_suits m s x ≡ true) (untaken : x ≡ Remove → any_taken m s ≡ false) (rising : version_ends m ≡ false) (still : quiet (store k j slots) m ≡ true) where
  abbrev z : Sizes
  z = store k j slots

  low : lowest_there m < 8
  unfolding lowest_there
  low = source_there k j slots al m L M G.shown 0

  -- the server whose metadata the change goes by
  abbrev a : Fin 8
  a = (lowest_there m, low)

  abbrev Old : Place → ℕ
  Old = server_of m (lowest_there m)

  -- a table's entry
  young : (u t i : ℕ) → u < 8 → t < 8 → i < slots → m (server u (Table t i)) ≤ last_version
  unfolding N.name_in_store
  young u t i hu ht hi =
      let n = 1024 * t + i in
      let e : N.server_of n ≡ t = omega arith in
      let f : N.slot_of n ≡ i = omega arith in
      subst (λ (q : ℕ). m (server u (Table q i)) ≤ last_version) e
      (subst (λ (q : ℕ). m (server u (Table (N.server_of n) q)) ≤ last_version) f ((S.servers (u, hu)).tables n (rw (e, f, lt-ltb t 8 ht, lt-ltb i slots hi))))

  largest_young : (t i : ℕ) → t < 8 → i < slots → largest_version m s t i ≤ last_version
  unfolding largest_version
  largest_young t i ht hi = largest_within (there m) (λ u. m (server u (Table t i))) last_version 8 _ (young s t i near ht hi) (λ u l. young u t i l ht hi)

  -- ---- WHAT IT READS
  fits : Steps.change_fits z m x s ≡ true
  unfolding Steps.change_fits
  fits =
      let phases = every_below (suc j) (λ c. leb (m (client c phase)) 3) (λ c l. le-leb (m (client c phase)) 3 ((S.parts (c, l)).fields.within 0 (omega arith))) in
      let sound = metadata_judged slots (lowest_there m) Old (S.servers a) in
      let table = every_below slots (λ i. all_below 8 (λ t. leb (largest_version m s t i) last_version))
      (λ i hi. every_below 8 (λ t. leb (largest_version m s t i) last_version) (λ t ht. le-leb (largest_version m s t i) last_version (largest_young t i ht hi))) in
      rw (phases, lt-ltb (lowest_there m) 8 low, sound) (or_right (not (is_add x)) _ table)

  -- ---- WHAT IT STORES
  parts_now : (in_store slots (Old Root) ≡ true) × (Old Version ≤ last_version) × (states_fit (Old States) ≡ true)
  parts_now = metadata_parts slots (Old Version) (Old Root) (Old States) (S.servers a).metadata

  abbrev st' : ℕ
  st' = changed_states x (Old States) s

  -- "15: the metadata's version is at its largest"
  next_version : suc (Old Version) ≤ last_version
  unfolding version_ends
  next_version =
      let e : leb last_version (Old Version) ≡ false = rw (lt-ltb (lowest_there m) 8 low) at rising in
      omega (arith, leb-false last_version (Old Version) e)

  some_present : ¬ (present st' ≡ 0)
  unfolding is_present
  some_present e =
      let t = C.some_there k j slots size al m L M G x s near suits untaken still fits in
      not_both t.1 (ap (λ (w : ℕ). bit w t.0.0) e ∙ zero_bit t.0.0)

  states_now : states_fit st' ≡ true
  unfolding states_fit
  states_now =
      rw (lt-ltb st' 65536 (states_within x (Old States) s near (few_states slots (Old Version) (Old Root) (Old States) (S.servers a).metadata)), ne_eqb (present st') 0 some_present)

  server_sound : (t : Fin 8) → ServerSound slots t.0 (server_of (C.m' k j slots size al m L M G x s near suits untaken still fits) t.0)
  unfolding changed metadata_step
  server_sound t =
      subst (ServerSound slots t.0) (sym (C.server_now k j slots size al m L M G x s near suits untaken still fits t))
      (by_meta (there m t.0 || eqb t.0 s) _ (by_table (is_add x && eqb t.0 s)))
    where
      by_table : (b : Bool) → ServerSound slots t.0 (changed places (server_of m t.0) (cond b (versions_step (largest_version m s) slots) []))
      by_table true = table_stored slots t.0 (largest_version m s) largest_young (server_of m t.0) (S.servers t)
      by_table false = S.servers t

      by_meta : (b : Bool) (p : Place → ℕ) → ServerSound slots t.0 p → ServerSound slots t.0 (changed places p (cond b (metadata_step (Old Root) st' (suc (Old Version)) p) []))
      by_meta true p h = metadata_stored slots t.0 p h (Old Root) st' (suc (Old Version)) (parts_now.0, states_now) next_version
      by_meta false p h = h

  change_sound : SoundStore k j slots (C.m' k j slots size al m L M G x s near suits untaken still fits)
  change_sound =
      let now = C.client_now k j slots size al m L M G x s near suits untaken still fits in
      let m' = C.m' k j slots size al m L M G x s near suits untaken still fits in
      record {
        parts = λ c. subst (PartSound slots) (sym (now c.0)) (S.parts c);
        servers = server_sound;
        locks = λ t. unstored k j slots m m' 0 (λ d _. now d) t (λ y _. goes_on_same t.0 (client_of m 0) (client_of m' 0) (now 0))
            (C.locks_now k j slots size al m L M G x s near suits untaken still fits t) (S.locks t);
      }

  pub change_kept : Kept k j slots m (Steps.change_servers z m x s)
  unfolding Steps.change_servers
  change_kept = if_kept k j slots m (Steps.change_fits z m x s) _ fits (record { passes = accepted Done refl; sound = change_sound })
