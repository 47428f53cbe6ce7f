-- Every store of a step lies in the memory, and none in the head: whatever the memory holds.
use Rattle.std.specs.Prelude.{◌≡◌, Bool, ◌&&◌, ◌||◌, leb, ltb, length}
use Rattle.std.proofs.Math.Path.{refl, ap, subst}
use Rattle.std.proofs.Common.{sym, ◌∙◌, arith, eqb-true, ltb-true}
use Rattle.std.proofs.Math.Bool.{true, false, cond, not, true≢false}
use mathlib.Core.List.{List, [], ◌∷◌, ◌++◌, map}
use Prim.Native.Nat.{ℕ, zero, suc, ◌+◌, ◌≤◌, ◌<◌}
use Rattle.std.proofs.Math.Decide.{dec_le}
use Rattle.std.proofs.lemmas.Bool.{not-false}
use Rattle.std.proofs.Math.Dec.{eqb}
use Rattle.base.specs.Test.{and_both}
use Rattle.memory.specs.Bit.{bit}
use Rattle.layout.specs.Block.{In}
use Rattle.layout.specs.Space.{Put, put, changed, Valid}
use Rattle.layout.proofs.Laws.Space.{AllValid}
use Rattle.layout.specs.Step.{and_then}
use Rattle.layout.proofs.Laws.Step.{changed_append, valid_append}
use Rattle.layout.specs.Part.{over}
use Rattle.layout.proofs.Laws.Part.{good_all}
use Rattle.layout.proofs.Laws.Sweep.{sweep_valid}
use Rattle.server.specs.declared.place.Place.{Place}
use Rattle.server.specs.declared.lock.Use.TheVariants.{Fetch}
use Rattle.server.specs.Check.{held}
use Rattle.server.specs.HandOut.{metadata_at, metadata_sound, vector_at}
use Rattle.nodes.specs.Object.{object_of}
use Rattle.server.specs.Object.{Has}
use Rattle.server.specs.declared.place.Place.TheVariants.{Table}
use Rattle.server.specs.Store.{lock_step, unlock_step, versions_row, versions_step}
use Rattle.server.specs.Laws.Leaves.{lock_inside, unlock_inside, metadata_inside}
use Rattle.client.specs.declared.part.Set.{Set}
use Rattle.client.specs.declared.part.Set.TheVariants.{Reads, Writes}
use Rattle.client.specs.Layout.{ClientWord, client_again, client_words, client_block, field, item, phase, participants, prepared, applied, limit}
use Rattle.client.specs.Record.{in_store, number_in_store, node_fits}
use Rattle.client.specs.Sets.{count, number_at}
use Rattle.client.specs.Items.{all_below}
use Rattle.client.specs.Fits.{said_count, servers_fit, number_fits, numbers_fit, fit_to_work, fit_to_commit, fit_to_prepare, fit_to_abort, fit_to_unlock, writes_fit, fit_to_renew, fit_to_apply}
use Rattle.client.specs.Laws.Ranges.{all_at}
use Rattle.client.specs.Vectors.{vector_fits}
use Rattle.client.specs.Have.{source, unusable, bad_vector, broken}
use Rattle.client.specs.Part.{PartStep, put_field, put_word}
use Rattle.client.specs.Laws.Steps.{Good, good_then, good_field}
use Rattle.client.specs.Answered.{used_enter, entered, enter_writes, answered}
use Rattle.client.specs.Fetched.{fetched_meta, fetched_node, fetched_vector}
use Rattle.client.specs.Participants.{participants_of, committing}
use Rattle.client.specs.Copies.{drop_all}
use Rattle.client.specs.Course.{noted, decided}
use Rattle.client.specs.Renew.{finish}
use Rattle.client.specs.Work.{Worked, refused, fetches, aborted, answers, walked, worked}
use Rattle.client.specs.Laws.GoodSteps.{good_used, good_entries, good_fetched_meta, good_fetched_node, good_fetched_vector, good_drop_all, good_reset, good_give, good_abort, good_lose, good_finish}
use Rattle.steps.specs.declared.sizes.Sizes.{Sizes}
use Rattle.steps.specs.Whole.{Address, head, server, client, whole, block, server_at, client_at, Allowed}
use Rattle.steps.proofs.Laws.Whole.{again, server_part, client_part}
use Rattle.steps.proofs.Laws.Stores.{client_of, server_of, part_other, client_changed}
use Rattle.steps.proofs.Laws.Writes.{write_inside}
use Rattle.steps.proofs.Laws.There.{named_in, in_store_has}
use Rattle.steps.specs.Judge.{lock_fits, unlock_fits, abort_fits, lowest_participant}
use Rattle.steps.specs.declared.outcome.Outcome.{Outcome}
use Rattle.steps.specs.declared.outcome.Outcome.TheVariants.{Done, Fetched}
use Rattle.steps.specs.declared.step.Kind.{Kind}
use Rattle.steps.specs.declared.step.ServerChange.{ServerChange}
use Rattle.steps.specs.Servers.{change_of, there, metadata_source, largest_version, is_add, changed_states}
use Rattle.steps.specs.Refusal.{kind_of, refusal}
use Rattle.steps.specs.Passed.{Passed}
use Rattle.steps.proofs.Laws.Passed.{passed}
use Rattle.demand.proofs.Laws.Coming.{a_change}
use Rattle.demand.proofs.Laws.Lacking.{fetch_lacks}
use Rattle.demand.proofs.Laws.Servers.{both_client}
use Rattle.demand.proofs.Laws.Frame.{Only}
use Rattle.demand.proofs.Laws.Slots.{SameSets, count_frame, number_frame}
use Rattle.demand.proofs.Laws.Course.{else_same}
use Rattle.demand.proofs.Laws.CopyWords.{sets_then}
use Rattle.nodes.specs.Name as N
use Rattle.operations.specs.Object as O
use Rattle.server.specs.Layout as Srv
use Rattle.client.specs.Life as Life
use Rattle.steps.specs.Uses as U
use Rattle.steps.specs.Steps as S
use Rattle.steps.specs.declared.step.Step as Step

-- ---- the client's own steps
good_entering : (us : List ℕ) → Good (used_enter us)
unfolding used_enter
good_entering us = good_used (length us ∷ us)

good_answered : (us : List ℕ) (w : O.Writes) → Good (answered us w)
unfolding answered enter_writes put_word
good_answered us w =
    good_then (used_enter us) (and_then client_words (enter_writes w) (put_field 1 0)) (good_entering us)
    (good_then (enter_writes w) (put_field 1 0) (good_entries (entered w)) (good_field 1 0 (omega arith)))

good_committing : Good committing
unfolding committing AllValid Valid In
good_committing = record { all = λ m. (omega arith, (omega arith, tt)) }

good_noted : (i s : ℕ) → i < 15 → Good (noted (field i) s)
unfolding noted AllValid Valid In
good_noted i s l = record { all = λ m. (l, tt) }

good_decided : Good decided
unfolding decided AllValid Valid In
good_decided = record { all = λ m. (omega arith, tt) }

-- what an address belongs to
in_head : Address → Bool
in_head (head i) = true
in_head (server s a) = false
in_head (client c a) = false

-- the table's versions of an added server
module _ (n : ℕ) (v : ℕ → ℕ → ℕ) where
  row_inside : (i t : ℕ) → i < n → t ≤ 8 → AllValid Srv.places (Srv.server_block n) (versions_row v i t)
  unfolding versions_row AllValid Valid In
  row_inside i zero l h = tt
  row_inside i (suc t) l h =
      valid_append Srv.places (Srv.server_block n) (versions_row v i t) (put (Table t i) (v t i) ∷ []) (row_inside i t l (omega arith)) ((l, omega arith), tt)

  versions_inside : (i : ℕ) → i ≤ n → AllValid Srv.places (Srv.server_block n) (versions_step v i)
  unfolding versions_step AllValid
  versions_inside zero l = tt
  versions_inside (suc i) l = valid_append Srv.places (Srv.server_block n) (versions_step v i) (versions_row v i 8) (versions_inside i (omega arith)) (row_inside i 8 (omega arith) (omega arith))

module _ (z : Sizes) where
  -- each store is at an address of the memory; what the head holds stays
  pub record Lies (ps : List (Put Address)) : Type 0 where
    pub valid : AllValid whole (block z) ps
    pub headless : (m : Address → ℕ) (i : ℕ) → changed whole m ps (head i) ≡ m (head i)

  pub lies_none : Lies []
  unfolding AllValid changed
  lies_none = record { valid = tt; headless = λ m i. refl }

  pub lies_append : (ps qs : List (Put Address)) → Lies ps → Lies qs → Lies (ps ++ qs)
  lies_append ps qs p q = record {
    valid = valid_append whole (block z) ps qs p.valid q.valid;
    headless = λ m i. ap (λ (f : Address → ℕ). f (head i)) (changed_append whole ps qs m) ∙ q.headless (changed whole m ps) i ∙ p.headless m i;
  }

  -- stores in a client's part, and in a server's
  pub lies_client : (c : ℕ) → c < z.clients → (ps : List (Put ClientWord)) → AllValid client_words client_block ps → Lies (over (client c) ps)
  unfolding in_head
  lies_client c l ps ok = record {
    valid = good_all client_words client_block whole (block z) (client c) (client_at z c) (client_part z c l) ps ok;
    headless = λ m i. part_other client_words client_again whole again (client c) (head i) (λ a q. true≢false (ap in_head q)) ps m;
  }

  pub lies_server : (s : ℕ) → s < 8 → (ps : List (Put Place)) → AllValid Srv.places (Srv.server_block z.slots) ps → Lies (over (server s) ps)
  unfolding in_head
  lies_server s l ps ok = record {
    valid = good_all Srv.places (Srv.server_block z.slots) whole (block z) (server s) (server_at z s) (server_part z s l) ps ok;
    headless = λ m i. part_other Srv.places Srv.place_again whole again (server s) (head i) (λ a q. true≢false (ap in_head q)) ps m;
  }

  lies_either : (b : Bool) (ps qs : List (Put Address)) → Lies ps → Lies qs → Lies (cond b ps qs)
  lies_either true ps qs p q = p
  lies_either false ps qs p q = q

  lies_servers : (n : ℕ) (f : ℕ → List (Put Address)) → ((s : ℕ) → s < n → Lies (f s)) → Lies (S.at_servers n f)
  unfolding S.at_servers
  lies_servers zero f h = lies_none
  lies_servers (suc n) f h = lies_append (S.at_servers n f) (f n) (lies_servers n f (λ s l. h s (omega arith))) (h n (omega arith))

  -- ---- of a client
  module _ (al : Allowed z) (m : Address → ℕ) (c : ℕ) (l : c < z.clients) where
    abbrev u : ClientWord → ℕ
    u = client_of m c

    pub lies_part : (g : PartStep) → Good g → Lies (S.in_client z m c g)
    lies_part g ok = lies_client c l (g u) (ok.all u)

    -- a set whose objects are objects of the store
    abbrev There : Set → Type 0
    There s = numbers_fit z.slots u s ≡ true

    set_has : (s : Set) → There s → (i : ℕ) → i < count u s → Has z.slots (object_of (number_at u s i))
    unfolding numbers_fit number_fits
    set_has s fit i h = in_store_has z.slots (number_at u s i)
        (all_at (number_fits z.slots u s) (count u s) i
        (and_both (leb (said_count u s) (limit s)) (all_below (count u s) (number_fits z.slots u s)) fit).1 h)

    -- locks and unlocks of what is read, and the writes
    abbrev Inside : List (Put Place) → Type 0
    Inside ps = AllValid Srv.places (Srv.server_block z.slots) ps

    inside_if : (b : Bool) (ps : List (Put Place)) → Inside ps → Inside (cond b ps [])
    unfolding AllValid
    inside_if true ps h = h
    inside_if false ps h = tt

    unlock_valid : There Reads → (low s : ℕ) (p : Place → ℕ) → Inside (S.unlock_each u c low s p)
    unfolding U.item_of
    unlock_valid fit low s p =
        sweep_valid Srv.places (Srv.server_block z.slots) _ (count u Reads) p
        (λ i q h. inside_if (U.locked_at low s (U.read_item u i)) (unlock_step (object_of (number_at u Reads i)) c q) (unlock_inside z.slots q (object_of (number_at u Reads i)) c (set_has Reads fit i h)))

    lock_valid : There Reads → (low s : ℕ) (p : Place → ℕ) → Inside (S.lock_each u c low s p)
    unfolding U.item_of
    lock_valid fit low s p =
        sweep_valid Srv.places (Srv.server_block z.slots) _ (count u Reads) p
        (λ i q h. inside_if (U.locked_at low s (U.read_item u i)) (lock_step (object_of (number_at u Reads i)) (U.read_item u i).written c q)
        (lock_inside z.slots q (object_of (number_at u Reads i)) (U.read_item u i).written c (set_has Reads fit i h)))

    writes_valid : There Writes → (s : ℕ) (p : Place → ℕ) → Inside (S.store_all u s p)
    writes_valid fit s p = sweep_valid Srv.places (Srv.server_block z.slots) (S.store_write u s) (count u Writes) p (λ i q h. write_inside z.slots u s i q (set_has Writes fit i h))

    -- ---- ABORT
    aborting_lies : abort_fits z m c ≡ true → (us : List ℕ) → Lies (S.aborting z m c us)
    unfolding abort_fits fit_to_abort
    aborting_lies fits us =
        lies_append (S.unlocked_everywhere z m c) (S.in_client z m c (Life.abort_part us))
        (lies_servers 8 _
        (λ s h. lies_either (bit (u prepared) s) _ [] (lies_server s h (S.unlock_each u c (lowest_participant z m c) s (server_of m s)) (unlock_valid reads (lowest_participant z m c) s (server_of m s))) lies_none))
        (lies_part (Life.abort_part us) (good_abort us))
      where
        reads : There Reads
        reads =
            (and_both (servers_fit u prepared) (numbers_fit z.slots u Reads)
            (and_both (fit_to_abort z.slots u) (all_below 8 (λ s. not (bit (u prepared) s) || (fit_to_unlock z.slots u && unlock_fits z m c s))) fits).0).1

    -- ---- a step that is refused where something is out of range, and one of two
    lies_if : (b : Bool) (d : S.Did) → (b ≡ true → Lies d.stores) → Lies (S.if_fit b d).stores
    lies_if true d h = h refl
    lies_if false d h = lies_none

    lies_one : (b : Bool) (d e : S.Did) → Lies d.stores → Lies e.stores → Lies (cond b d e).stores
    lies_one true d e p q = p
    lies_one false d e p q = q

    abort_lies : (y : ℕ) (us : List ℕ) → Lies (S.abort z m c y us).stores
    unfolding S.abort
    abort_lies y us = lies_if (abort_fits z m c) _ (λ fits. aborting_lies fits us)

    -- by what is found
    lies_found : (y : ℕ) (d : S.Did) (us : List ℕ) → Lies d.stores → Lies (S.by_finding y d (λ x. S.abort z m c x us)).stores
    lies_found y d us h = lies_one (eqb y 0) _ _ h (lies_one (eqb y 10) _ _ lies_none (abort_lies y us))

    -- ---- WORK
    handed_lies : (us : List ℕ) (g : PartStep) → Good g → Lies (S.handed z m c us g)
    handed_lies us g ok = lies_part (and_then client_words (used_enter us) g) (good_then (used_enter us) g (good_entering us) ok)

    object_lies : (us : List ℕ) (s x : ℕ) (out : Outcome) (ok : Bool) (g : PartStep) → Good g → Lies (S.fetch_object z m c us s x out ok g).stores
    object_lies us s x out ok g h =
        lies_if (lock_fits z m s x) _
        (λ _. lies_one (held (object_of x) c Fetch (server_of m s)) _ _ (abort_lies 2 us)
        (lies_one (S.full z m c us) _ _ (abort_lies 4 us) (lies_if ok _ (λ _. handed_lies us g h))))

    vector_lies : (us : List ℕ) (s : ℕ) → s < 8 → Lies (S.handed z m c us (fetched_vector s (vector_at (server_of m s))))
    vector_lies us s h = handed_lies us (fetched_vector s (vector_at (server_of m s))) (good_fetched_vector s (vector_at (server_of m s)) h)

    -- the server that a vector is fetched from
    abbrev Near : O.Ask → Type 0
    Near (O.object O.meta) = Unit {0}
    Near (O.object (O.node n)) = Unit {0}
    Near (O.object (O.flag n)) = N.server_of n < 8
    Near (O.vector s) = s < 8
    Near (O.fetched s) = s < 8

    hand_over_lies : (us : List ℕ) (a : O.Ask) (out : Outcome) → Near a → Lies (S.hand_over z m c us a (S.wanted (metadata_source m z c) a).from out).stores
    hand_over_lies us (O.object O.meta) out h =
        let p = server_of m (metadata_source m z c) in
        let r = metadata_at p in
        object_lies us (metadata_source m z c) 0 out (metadata_sound z.slots p) (fetched_meta r.root r.states r.version) (good_fetched_meta r.root r.states r.version)
    hand_over_lies us (O.object (O.node n)) out h =
        let r = S.node_at (server_of m (N.server_of n)) n in
        object_lies us (N.server_of n) (1 + n) out (node_fits z.slots r) (fetched_node n r) (good_fetched_node n r)
    hand_over_lies us (O.object (O.flag n)) out h = vector_lies us (N.server_of n) h
    hand_over_lies us (O.vector s) out h = vector_lies us s h
    hand_over_lies us (O.fetched s) out h = vector_lies us s h

    fetch_lies : (us : List ℕ) (a : O.Ask) → Near a → Lies (S.fetch z m c us a).stores
    unfolding S.fetch
    fetch_lies us a h =
        let w = S.wanted (metadata_source m z c) a in
        lies_if (ltb w.from 8) _ (λ _. lies_one (there m w.from) _ _
        (lies_found (U.deciding (map (S.fetch_finding z m c us w.from) (S.fetch_items z m c us))) (S.hand_over z m c us a w.from (Fetched w.what w.which)) us
        (hand_over_lies us a (Fetched w.what w.which) h)) (abort_lies 1 us))

    -- what is fetched is one of the store's
    near_server : (s : ℕ) → bad_vector z.slots u s ≡ false → s < 8
    near_server s e =
        ltb-true s 8 (and_both (ltb s 8) (vector_fits u s) (not-false (ltb s 8 && vector_fits u s) e)).0

    near : (a : O.Ask) → broken z.slots u a ≡ false → Near a
    unfolding broken
    near (O.object O.meta) e = tt
    near (O.object (O.node n)) e = tt
    near (O.object (O.flag n)) e = go (in_store z.slots n) refl e
      where
        go : (b : Bool) → in_store z.slots n ≡ b → cond b (unusable z.slots u (8193 + n) (source u (8193 + n))) true ≡ false → N.server_of n < 8
        go true i q = (named_in z.slots n i).0
        go false i q = absurd (true≢false q)
    near (O.vector s) e = near_server s e
    near (O.fetched s) e = near_server s e

    work_lies : Lies (S.work z m c).stores
    unfolding S.work
    work_lies = lies_if (fit_to_work z.slots u) _ (λ _. go (worked z.slots u) refl)
      where
        us : List ℕ
        us = (walked z.slots u).used

        go : (w : Worked) → worked z.slots u ≡ w → Lies (S.after_walk z m c us w).stores
        go refused e = lies_none
        go (fetches a) e = fetch_lies us a (near a (fetch_lacks z.slots u a e).1)
        go (aborted y) e = abort_lies y us
        go (answers a w) e = lies_part (answered us w) (good_answered us w)

    -- ---- COMMIT
    commit_lies : Lies (S.commit z m c).stores
    unfolding S.commit
    commit_lies =
        lies_if (fit_to_commit z.slots u) _
        (λ _. lies_one (eqb (participants_of u) 0) _ _ (lies_part (Life.reset 0) (good_reset 0)) (lies_part committing good_committing))

    -- ---- APPLY and PREPARE at a server
    module _ (s : ℕ) (h : s < 8) (reads : There Reads) where
      applying_lies : There Writes → Lies (S.applying z m c s)
      unfolding and_then
      applying_lies writes =
          let p = server_of m s in
          lies_server s h (and_then Srv.places (S.store_all u s) (S.unlock_each u c (lowest_participant z m c) s) p)
          (valid_append Srv.places (Srv.server_block z.slots) (S.store_all u s p) (S.unlock_each u c (lowest_participant z m c) s (changed Srv.places p (S.store_all u s p)))
          (writes_valid writes s p) (unlock_valid reads (lowest_participant z m c) s (changed Srv.places p (S.store_all u s p))))

      applied_lies : There Writes → Lies (S.applied_at z m c s).stores
      unfolding S.applied_at
      applied_lies writes =
          lies_one (S.all_applied z m c s) _ _
          (lies_append (S.applying z m c s) _ (applying_lies writes) (lies_part _ (good_then (noted applied s) finish (good_noted 7 s (omega arith)) good_finish)))
          (lies_append (S.applying z m c s) _ (applying_lies writes) (lies_part (noted applied s) (good_noted 7 s (omega arith))))

      preparing_lies : Lies (S.preparing z m c s)
      preparing_lies =
          lies_append (S.in_server z m c s (S.lock_each u c (lowest_participant z m c) s)) _
          (lies_server s h (S.lock_each u c (lowest_participant z m c) s (server_of m s)) (lock_valid reads (lowest_participant z m c) s (server_of m s))) (lies_part (noted prepared s) (good_noted 6 s (omega arith)))

      deciding_lies : Lies (S.deciding_stores z m c s)
      deciding_lies = lies_append (S.preparing z m c s) _ preparing_lies (lies_part decided good_decided)

    -- ---- LOSS
    lose_lies : Lies (S.lose z m c).stores
    unfolding S.lose
    lose_lies =
        lies_one (eqb (u phase) 0) _ _ (lies_part drop_all good_drop_all)
        (lies_one (eqb (u phase) 3) _ _ (lies_part Life.lose_part good_lose)
        (lies_if (leb (u phase) 3 && abort_fits z m c) _
        (λ fits. lies_append (S.aborting z m c []) _ (aborting_lies (and_both (leb (u phase) 3) (abort_fits z m c) fits).1 [])
        (lies_client c l _ (good_drop_all.all (client_of (changed whole m (S.aborting z m c [])) c))))))

-- what an apply reads: the objects of both sets are there
apply_numbers : (slots : ℕ) (u : ClientWord → ℕ) (s : ℕ) (last : Bool) → fit_to_apply slots u s last ≡ true → (numbers_fit slots u Reads ≡ true) × (numbers_fit slots u Writes ≡ true)
unfolding fit_to_apply fit_to_unlock
apply_numbers slots u s last h =
    let rest = writes_fit slots u s && (not last || fit_to_renew slots u) in
    let p = and_both (servers_fit u applied && numbers_fit slots u Reads) (fit_to_unlock slots u && rest) h in (
      (and_both (servers_fit u applied) (numbers_fit slots u Reads) p.0).1,
      (and_both (servers_fit u participants) (numbers_fit slots u Writes) (and_both (fit_to_unlock slots u) rest p.1).0).1,
    )

-- they stay where the sets do
numbers_same : (slots : ℕ) (u v : ClientWord → ℕ) → SameSets u v → (s : Set) → said_count v s ≡ said_count u s → ((i : ℕ) → v (item s i 0) ≡ u (item s i 0))
    → numbers_fit slots v s ≡ numbers_fit slots u s
unfolding numbers_fit number_fits
numbers_same slots u v S s c e =
    λ t. leb (c t) (limit s) && all_below (count_frame u v s S.reads S.writes t) (λ i. number_in_store slots (number_frame 0 0 0 u v S s i (e i) t))

-- ---- PREPARE: the sets are the same still where it also applies
module _ (z : Sizes) (al : Allowed z) (m : Address → ℕ) (c : ℕ) (l : c < z.clients) (s : ℕ) (h : s < 8) where
  abbrev mine : ClientWord → ℕ
  mine = client_of m c

  abbrev m₂ : Address → ℕ
  m₂ = changed whole m (S.deciding_stores z m c s)

  sets₂ : SameSets mine (client_of m₂ c)
  unfolding decided noted Only
  sets₂ =
      let v = changed client_words mine (noted prepared s mine) in
      let m₁ = changed whole m (S.preparing z m c s) in
      subst (SameSets mine)
      (sym (ap (λ (f : Address → ℕ). client_of f c) (changed_append whole (S.preparing z m c s) (over (client c) (decided mine)) m)
      ∙ client_changed m₁ c (decided mine) ∙ ap (λ (w : ClientWord → ℕ). changed client_words w (decided mine)) (both_client m s c _ _)))
      (sets_then mine v (changed client_words v (decided v)) (else_same (noted prepared s mine) mine (refl, tt)).sets (else_same (decided v) v (refl, tt)).sets)

  alone_lies : fit_to_apply z.slots mine s true ≡ true → Lies z (S.applied_at z m₂ c s).stores
  alone_lies fits =
      let both = apply_numbers z.slots mine s true fits in
      applied_lies z al m₂ c l s h (numbers_same z.slots mine (client_of m₂ c) sets₂ Reads sets₂.reads (λ i. sets₂.items_read i 0) ∙ both.0)
      (numbers_same z.slots mine (client_of m₂ c) sets₂ Writes sets₂.writes (λ i. sets₂.items_written i 0) ∙ both.1)

  prepared_lies : numbers_fit z.slots mine Reads ≡ true → Lies z (S.prepared_at z m c s).stores
  unfolding S.prepared_at
  prepared_lies reads =
      let ps = S.deciding_stores z m c s in
      lies_one z al m c l (not (S.all_prepared z m c s)) _ _ (preparing_lies z al m c l s h reads)
      (lies_one z al m c l (S.only z m c s) _ _
      (lies_if z al m c l (fit_to_apply z.slots mine s true) _ (λ fits. lies_append z ps (S.applied_at z m₂ c s).stores (deciding_lies z al m c l s h reads) (alone_lies fits)))
      (deciding_lies z al m c l s h reads))

  prepare_lies : Lies z (S.prepare z m c s).stores
  unfolding S.prepare fit_to_prepare
  prepare_lies =
      lies_if z al m c l (fit_to_prepare z.slots mine) _
      (λ fits. lies_one z al m c l (there m s) _ _ (lies_found z al m c l (U.deciding (map (S.prepare_finding z m c s) (U.read_items mine))) (S.prepared_at z m c s) []
      (prepared_lies (and_both (numbers_fit z.slots mine Reads) (numbers_fit z.slots mine Writes)
      (and_both (servers_fit mine participants && servers_fit mine prepared) (numbers_fit z.slots mine Reads && numbers_fit z.slots mine Writes) fits).1).0)) (abort_lies z al m c l 1 []))

-- ---- THE STEP
module _ (z : Sizes) (al : Allowed z) (k : Step.Step) (m : Address → ℕ) where
  kind_lies : Passed z k m → k.kind ≤ 7 → Lies z (S.by_kind z m k.client k (kind_of k.kind)).stores
  unfolding kind_of S.begin S.give S.apply
  kind_lies p below = go k.kind refl below
    where
      c : ℕ
      c = k.client

      l : k.client < z.clients
      l = p.known_client below

      go : (x : ℕ) → k.kind ≡ x → x ≤ 7 → Lies z (S.by_kind z m k.client k (kind_of x)).stores
      go zero e r = lies_part z al m c l (Life.reset 1) (good_reset 1)
      go (suc zero) e r = lies_part z al m c l (Life.give_part k.op k.key k.value k.server) (good_give k.op k.key k.value k.server)
      go (suc (suc zero)) e r = work_lies z al m c l
      go (suc (suc (suc zero))) e r = commit_lies z al m c l
      go (suc (suc (suc (suc zero)))) e r = prepare_lies z al m c l k.server (p.known_participant (omega (arith, e)) (omega (arith, e)))
      go (suc (suc (suc (suc (suc zero))))) e r =
          let last = S.all_applied z m c k.server in
          lies_if z al m c l (S.apply_fits z m c k.server) (S.applied_at z m c k.server)
          (λ fits. let both = apply_numbers z.slots (client_of m c) k.server last
          (and_both (fit_to_apply z.slots (client_of m c) k.server last) (unlock_fits z m c k.server) fits).0 in
          applied_lies z al m c l k.server (p.known_participant (omega (arith, e)) (omega (arith, e))) both.0 both.1)
      go (suc (suc (suc (suc (suc (suc zero)))))) e r = abort_lies z al m c l 6 []
      go (suc (suc (suc (suc (suc (suc (suc zero))))))) e r = lose_lies z al m c l
      go (suc (suc (suc (suc (suc (suc (suc (suc x)))))))) e r = absurd (omega arith)

  -- ---- 8 add, 9 close, 10 remove: at no client
  change_lies : (x : ServerChange) (s : ℕ) → s < 8 → Lies z (S.change_servers z m x s).stores
  unfolding S.change_servers
  change_lies x s l = go (S.change_fits z m x s)
    where
      added : (b : Bool) → Lies z (cond b (over (server s) (versions_step (largest_version m s) z.slots)) [])
      added true = lies_server z s l _ (versions_inside z.slots (largest_version m s) z.slots (omega arith))
      added false = lies_none z

      go : (b : Bool) → Lies z (S.if_fit b (S.did Done (S.added_stores z m x s ++ S.metadata_stores z m s (changed_states x (S.metadata_now z m).states s)))).stores
      go true =
          lies_append z (S.added_stores z m x s) (S.metadata_stores z m s (changed_states x (S.metadata_now z m).states s)) (added (is_add x))
          (lies_servers z 8 _ (λ t h. lies_either z (there m t || eqb t s) _ [] (lies_server z t h _ (metadata_inside z.slots (λ a. 0) (S.metadata_now z m).root (changed_states x (S.metadata_now z m).states s) (suc (S.metadata_now z m).version))) (lies_none z)))
      go false = lies_none z

  changed_lies : Passed z k m → 8 ≤ k.kind → Lies z (S.by_kind z m k.client k (kind_of k.kind)).stores
  changed_lies p above =
      subst (λ (x : Kind). Lies z (S.by_kind z m k.client k x).stores) (sym (a_change k.kind above p.known_kind))
      (change_lies (change_of k.kind) k.server (p.known_changed above))

  rule_lies : Lies z (S.by_rule z k m).stores
  unfolding S.by_rule
  rule_lies = go (eqb (refusal z k m) 0) refl
    where
      go : (a : Bool) → eqb (refusal z k m) 0 ≡ a → Lies z (cond a (S.by_kind z m k.client k (kind_of k.kind)) (S.refuse (refusal z k m))).stores
      go true e = by (passed z k m (eqb-true (refusal z k m) 0 e)) (dec_le k.kind 7)
        where
          by : Passed z k m → Dec (k.kind ≤ 7) → Lies z (S.by_kind z m k.client k (kind_of k.kind)).stores
          by p (yes l) = kind_lies p l
          by p (no n) = changed_lies p (omega (arith, n))
      go false e = lies_none z

  pub step_lies : (room : ℕ) → Lies z (S.step z k room m).stores
  unfolding S.step
  step_lies room = go (S.lacks_room z k room m)
    where
      go : (a : Bool) → Lies z (cond a (S.refuse 12) (S.by_rule z k m)).stores
      go true = lies_none z
      go false = rule_lies
