-- LOCKS STAY SOUND: those that a lock's word names go on holding it, or are named no more. Stores in a client's part alone; prepare.
use Rattle.std.specs.Prelude.{◌≡◌, refl, Bool, false, ◌||◌, List, ◌⊎◌, eqb}
use Rattle.std.proofs.Math.Path.{ap, subst}
use Rattle.std.proofs.Common.{ap₂, sym, ◌∙◌, true≢false, inl, inr, arith}
use Rattle.std.proofs.Math.Bool.{true, not}
use Prim.Native.Nat.{ℕ, suc, ◌≤◌, ◌<◌, Fin}
use Rattle.std.proofs.Math.Decide.{ℕ_discrete, Fin-discrete}
use Rattle.base.specs.Test.{not_both}
use Rattle.memory.specs.Bit.{bit, put_bit}
use Rattle.memory.proofs.Laws.Bit.{bit_put_same, bit_put_other}
use Rattle.layout.specs.Space.{Put, changed}
use Rattle.layout.specs.Part.{over}
use Rattle.nodes.specs.declared.node.Node.{Node}
use Rattle.nodes.specs.Found.{Found}
use Rattle.std.specs.Prelude.{Some, None}
use Rattle.operations.specs.Object.{Obj}
use Rattle.server.specs.declared.place.Place.{Place}
use Rattle.nodes.specs.Object.{object_of}
use Rattle.server.specs.Object.{lock_of}
use Rattle.server.specs.Lock.{locked, lock_in_range}
use Rattle.server.specs.Laws.Lock.{locked_range}
use Rattle.client.specs.declared.part.Set.TheVariants.{Reads, Writes, Copies}
use Rattle.client.specs.Layout.{ClientWord, client_again, client_words, field, item, vector_word, phase, participants, prepared, applied, reads_count, writes_count}
use Rattle.client.specs.Record.{number, by_number, first_slot, kind_in_range}
use Rattle.client.specs.Commit.{is_at}
use Rattle.client.specs.Sets.{record_at, number_at, find}
use Rattle.client.specs.Items.{inner, has, of_record}
use Rattle.client.specs.Participants.{lowest_of}
use Rattle.client.specs.Part.{put_field, put_word}
use Rattle.client.specs.Copies.{drop_all}
use Rattle.client.specs.Life.{lose_part}
use Rattle.client.specs.Laws.Ranges.{client_fits}
use Rattle.client.specs.Course.{noted, decided}
use Rattle.steps.specs.declared.sizes.Sizes.{Sizes}
use Rattle.steps.specs.Whole.{Address, server, client, whole}
use Rattle.steps.proofs.Laws.Stores.{client_of, server_of, client_changed, client_else, client_servers}
use Rattle.steps.specs.Judge.{lowest_participant}
use Rattle.steps.specs.Steps.{lock_each, preparing}
use Rattle.demand.proofs.Laws.Frame.{last, read_after, Only, only_then, only_mono, only_other}
use Rattle.demand.specs.Ledger.{Ledger}
use Rattle.demand.proofs.Laws.Shows.{T, InStore, lock_kept, SlotShown, Related}
use Rattle.demand.proofs.Laws.Slots.{SameSets, number_frame, same_read, same_written, record_frame}
use Rattle.demand.proofs.Laws.CopyWords.{sets_refl}
use Rattle.demand.proofs.Laws.Course.{else_same}
use Rattle.demand.proofs.Laws.Decides.{nothing_applied}
use Rattle.demand.proofs.Laws.Dropped.{Mark, Drop, only_all}
use Rattle.demand.proofs.Laws.Held.{found_at}
use Rattle.demand.proofs.Laws.Locking.{Swept, locked_swept}
use Rattle.demand.proofs.Laws.Servers.{both, both_client, both_other, both_server, both_else, is_lock, a_lock}
use Rattle.demand.proofs.Laws.Turns.{store}
use Rattle.ranges.specs.Laws.Sound.{Holds, LockSound, LocksSound}
use Rattle.ranges.proofs.Laws.Words.{names, locked_names}
use Rattle.protocol.specs.Machine as P
use Rattle.steps.specs.Uses as U

-- ---- a client that goes on: after its commit still, prepared at s if it was, applied there only if it was, with the same sets
pub record GoesOn (s : ℕ) (u v : ClientWord → ℕ) : Type 0 where
  pub after_commit : (2 ≤ u phase) × (u phase ≤ 3) → (2 ≤ v phase) × (v phase ≤ 3)
  pub same_participants : v participants ≡ u participants
  pub still_prepared : bit (u prepared) s ≡ true → bit (v prepared) s ≡ true
  pub still_unapplied : bit (u applied) s ≡ false → bit (v applied) s ≡ false
  pub sets : SameSets u v

pub goes_on_same : (s : ℕ) (u v : ClientWord → ℕ) → v ≡ u → GoesOn s u v
goes_on_same s u v e = subst (GoesOn s u) (sym e) (record {
  after_commit = λ h. h;
  same_participants = refl;
  still_prepared = λ h. h;
  still_unapplied = λ h. h;
  sets = sets_refl u;
})

-- the words that tell whether a client goes on
abbrev telling : ClientWord → Bool
telling (field i) = eqb i 0 || eqb i 5 || eqb i 6 || eqb i 7 || eqb i 10 || eqb i 11
telling (item Reads i n) = true
telling (item Writes i n) = true
telling (item Copies i n) = false
telling (vector_word s n) = false

abbrev Silent : ClientWord → ℕ → Type 0
Silent a v = telling a ≡ false

-- stores at none of them
goes_on_silent : (s : ℕ) (u : ClientWord → ℕ) (ps : List (Put ClientWord)) → Only client_words Silent ps → GoesOn s u (changed client_words u ps)
goes_on_silent s u ps h = record {
  after_commit = λ q. subst (λ (n : ℕ). (2 ≤ n) × (n ≤ 3)) (sym (at phase refl)) q;
  same_participants = at participants refl;
  still_prepared = λ q. ap (λ (w : ℕ). bit w s) (at prepared refl) ∙ q;
  still_unapplied = λ q. ap (λ (w : ℕ). bit w s) (at applied refl) ∙ q;
  sets = record {
    reads = at reads_count refl;
    writes = at writes_count refl;
    items_read = λ i n. at (item Reads i n) refl;
    items_written = λ i n. at (item Writes i n) refl;
  };
}
  where
    at : (a : ClientWord) → telling a ≡ true → changed client_words u ps a ≡ u a
    at a e = only_other client_words client_again Silent a (λ x v c q. not_both e (ap telling q ∙ c)) ps u h

-- "A decided transaction of a lost client is still applied"
goes_on_lost : (s : ℕ) (u : ClientWord → ℕ) → GoesOn s u (changed client_words u (lose_part u))
unfolding lose_part put_word Only Mark
goes_on_lost s u =
    goes_on_silent s u (lose_part u)
    (only_then client_words Silent (put_field 9 1) drop_all u (refl, tt)
    (λ m. only_mono client_words Drop Silent drop_silent (drop_all m) (only_all m)))
  where
    drop_silent : (a : ClientWord) (v : ℕ) → Drop a v → Silent a v
    drop_silent (field i) v h = ap (λ (x : ℕ). telling (field x)) h.0
    drop_silent (item Reads i n) v h = absurd h.0
    drop_silent (item Writes i n) v h = absurd h.0
    drop_silent (item Copies i n) v h = refl
    drop_silent (vector_word s n) v h = refl

-- the decision
goes_on_decided : (s : ℕ) (u : ClientWord → ℕ) → GoesOn s u (changed client_words u (decided u))
unfolding decided Only
goes_on_decided s u = record {
  after_commit = λ _. subst (λ (n : ℕ). (2 ≤ n) × (n ≤ 3)) (sym (at phase)) (omega arith, omega arith);
  same_participants = at participants;
  still_prepared = λ q. ap (λ (w : ℕ). bit w s) (at prepared) ∙ q;
  still_unapplied = λ q. ap (λ (w : ℕ). bit w s) (at applied) ∙ q;
  sets = (else_same (decided u) u (refl, tt)).sets;
}
  where
    at : (a : ClientWord) → changed client_words u (decided u) a ≡ last client_words (decided u) a (u a)
    at a = read_after client_words (decided u) u a

-- ---- those that a lock's word names
module _ (z : Sizes) (s : ℕ) where
  -- client d holds the lock of x as its writer, or as a reader
  abbrev Held : (Address → ℕ) → Bool → ℕ → ℕ → Type 0
  Held m role d x = Holds z m s d x × (role ≡ true → has (client_of m d) Writes x ≡ true)

  pub held_by : (m : Address → ℕ) (x w : ℕ) → LockSound z m s x w → (role : Bool) (d : ℕ) → d < z.clients → names role d w ≡ true → Held m role d x
  held_by m x w h true d l e = let q = h.writer d l e in (q.0, λ _. q.1)
  held_by m x w h false d l e = (h.readers d l e, λ q. absurd (true≢false (sym q)))

  pub lock_from : (m : Address → ℕ) (x w : ℕ) → lock_in_range z.clients w ≡ true
      → ((role : Bool) (d : ℕ) → d < z.clients → names role d w ≡ true → Held m role d x) → LockSound z m s x w
  lock_from m x w r h = record {
    range = r;
    readers = λ d l e. (h false d l e).0;
    writer = λ d l e. let q = h true d l e in (q.0, q.1 refl);
  }

  module _ (m m' : Address → ℕ) (d : ℕ) (G : GoesOn s (client_of m d) (client_of m' d)) where
    abbrev u₀ : ClientWord → ℕ
    u₀ = client_of m d

    abbrev v₀ : ClientWord → ℕ
    v₀ = client_of m' d

    -- what is asked of a written record
    record_same : (g : Node → Bool) (f : Found) → of_record v₀ Writes g f ≡ of_record u₀ Writes g f
    record_same g (Some i) = ap g (record_frame u₀ v₀ Writes i (G.sets.items_written i))
    record_same g None = refl

    written_same : (g : Node → Bool) (x : ℕ) → of_record v₀ Writes g (find v₀ Writes x) ≡ of_record u₀ Writes g (find u₀ Writes x)
    written_same g x = ap (of_record v₀ Writes g) (same_written u₀ v₀ 0 0 0 G.sets x) ∙ record_same g (find u₀ Writes x)

    -- servers are asked about the same items
    item_as : (x : ℕ) (r : Node) → U.item_of v₀ x r ≡ U.item_of u₀ x r
    unfolding U.item_of has
    item_as x r =
        let w = same_written u₀ v₀ 0 0 0 G.sets x in
        let b = written_same (inner x) x in
        let k = written_same (kind_in_range x) x in
        λ t. record {
          number = x;
          inner_read = inner x r;
          mark = by_number x r.version (λ n. r.version) (λ n. first_slot r);
          written = is_at (w t);
          becomes = b t;
          read_fits = kind_in_range x r;
          written_fits = not (is_at (w t)) || k t;
        }

    item_same : (i : ℕ) → U.read_item v₀ i ≡ U.read_item u₀ i
    item_same i =
        item_as (number_at v₀ Reads i) (record_at v₀ Reads i)
        ∙ ap₂ (U.item_of u₀) (number_frame 0 0 0 u₀ v₀ G.sets Reads i (G.sets.items_read i 0)) (record_frame u₀ v₀ Reads i (G.sets.items_read i))

    locked_same : (i : ℕ) → U.locked_at (lowest_participant z m' d) s (U.read_item v₀ i) ≡ U.locked_at (lowest_participant z m d) s (U.read_item u₀ i)
    locked_same i = ap₂ (λ (w : ℕ) (i : U.Item). U.locked_at (lowest_of 8 w) s i) G.same_participants (item_same i)

    goes_on_held : (role : Bool) (x : ℕ) → Held m role d x → Held m' role d x
    unfolding has
    goes_on_held role x h = (
      record {
        after_commit = G.after_commit h.0.after_commit;
        takes_part = ap (λ (w : ℕ). bit w s) G.same_participants ∙ h.0.takes_part;
        has_prepared = G.still_prepared h.0.has_prepared;
        not_applied = G.still_unapplied h.0.not_applied;
        place = h.0.place;
        found = same_read u₀ v₀ 0 0 0 G.sets x ∙ h.0.found;
        locks = locked_same h.0.place ∙ h.0.locks;
      },
      λ e. ap is_at (same_written u₀ v₀ 0 0 0 G.sets x) ∙ h.1 e,
    )

-- ---- a step of client c; the other clients' parts stay
module _ (k j slots : ℕ) (m m' : Address → ℕ) (c : ℕ) (others : (d : ℕ) → ¬ (d ≡ c) → client_of m' d ≡ client_of m d) (s : Fin 8) where
  abbrev zz : Sizes
  zz = store k j slots

  abbrev word : (Address → ℕ) → Obj → ℕ
  word f o = f (server s.0 (lock_of (object_of (number o))))

  -- another client holds as it did
  pub other_held : (role : Bool) (d x : ℕ) → ¬ (d ≡ c) → Held zz s.0 m role d x → Held zz s.0 m' role d x
  other_held role d x n = goes_on_held zz s.0 m m' d (goes_on_same s.0 (client_of m d) (client_of m' d) (others d n)) role x

  -- c, where it holds a lock, goes on
  module _ (own : (x : ℕ) → Holds zz m s.0 c x → GoesOn s.0 (client_of m c) (client_of m' c)) where
    each_held : (role : Bool) (d x : ℕ) → Held zz s.0 m role d x → Held zz s.0 m' role d x
    each_held role d x h = go (ℕ_discrete d c)
      where
        mine : Held zz s.0 m role c x → Held zz s.0 m' role c x
        mine h = goes_on_held zz s.0 m m' c (own x h.0) role x h

        go : Dec (d ≡ c) → Held zz s.0 m' role d x
        go (no n) = other_held role d x n h
        go (yes e) = subst (λ (y : ℕ). Held zz s.0 m' role y x) (sym e) (mine (subst (λ (y : ℕ). Held zz s.0 m role y x) e h))

    -- server s stores no lock
    pub unstored : ((a : Place) → is_lock a ≡ true → server_of m' s.0 a ≡ server_of m s.0 a) → LocksSound k j slots m s → LocksSound k j slots m' s
    unstored e S o hi kept =
        let same : word m' o ≡ word m o = e (lock_of (object_of (number o))) (a_lock (object_of (number o))) in
        lock_from zz s.0 m' (number o) (word m' o) (subst (λ (w : ℕ). lock_in_range (suc j) w ≡ true) (sym same) (S o hi kept).range)
        (λ role d l q. each_held role d (number o)
        (held_by zz s.0 m (number o) (word m o) (S o hi kept) role d l (subst (λ (w : ℕ). names role d w ≡ true) same q)))

-- ---- stores in client c's part alone
module _ (k j slots : ℕ) (m : Address → ℕ) (c : ℕ) (ps : List (Put ClientWord)) (S : (s : Fin 8) → LocksSound k j slots m s) where
  abbrev stored : Address → ℕ
  stored = changed whole m (over (client c) ps)

  pub part_stored : ((s : Fin 8) (x : ℕ) → Holds (store k j slots) m s.0 c x → GoesOn s.0 (client_of m c) (changed client_words (client_of m c) ps))
      → (s : Fin 8) → LocksSound k j slots stored s
  part_stored g s =
      unstored k j slots m stored c (client_else m c ps) s (λ x h. subst (GoesOn s.0 (client_of m c)) (sym (client_changed m c ps)) (g s x h))
      (λ a _. ap (λ (p : Place → ℕ). p a) (client_servers m c ps s.0)) (S s)

  -- of a client that holds no lock, since it is before its commit: begin, give, work, commit, copies forgotten
  pub early_stored : client_of m c phase < 2 → (s : Fin 8) → LocksSound k j slots stored s
  early_stored early = part_stored (λ s x h. absurd (omega (arith, early, h.after_commit.0)))

-- a lost client's mark; the decision
module _ (k j slots : ℕ) (m : Address → ℕ) (c : ℕ) (S : (s : Fin 8) → LocksSound k j slots m s) where
  pub lost_locks : (s : Fin 8) → LocksSound k j slots (changed whole m (over (client c) (lose_part (client_of m c)))) s
  lost_locks = part_stored k j slots m c (lose_part (client_of m c)) S (λ s x h. goes_on_lost s.0 (client_of m c))

  pub decided_locks : (s : Fin 8) → LocksSound k j slots (changed whole m (over (client c) (decided (client_of m c)))) s
  decided_locks = part_stored k j slots m c (decided (client_of m c)) S (λ s x h. goes_on_decided s.0 (client_of m c))

-- ---- PREPARE at s, where c takes part
module _ (k j slots : ℕ) (al : slots ≤ 1024) (few : suc j ≤ 16) (m : Address → ℕ) (L : Ledger) (M : P.Machine (T k j slots)) (c : Fin (suc j)) (R : Related k j slots m L M) (fit : client_fits slots (client_of m c.0) ≡ true) (s : Fin 8) (now : client_of m c.0 phase ≡ 2) (part : bit (client_of m c.0 participants) s.0 ≡ true) (S : (t : Fin 8) → LocksSound k j slots m t) where
  abbrev z : Sizes
  z = store k j slots

  abbrev u : ClientWord → ℕ
  u = client_of m c.0

  abbrev p : Place → ℕ
  p = server_of m s.0

  abbrev y : P.Slot (T k j slots)
  y = M.slots c

  abbrev shown : SlotShown k j slots u y
  shown = (R.clients c).slot

  abbrev low : ℕ
  low = lowest_participant z m c.0

  el : y.lowest.0 ≡ low
  el = shown.lowest_as (omega (arith, now))

  abbrev ps : List (Put Place)
  ps = lock_each u c.0 low s.0 p

  abbrev qs : List (Put ClientWord)
  qs = noted prepared s.0 u

  abbrev v : ClientWord → ℕ
  v = changed client_words u qs

  abbrev m' : Address → ℕ
  m' = both m s.0 c.0 ps qs

  -- the client goes on, at every server
  at : (a : ClientWord) → v a ≡ last client_words qs a (u a)
  at a = read_after client_words qs u a

  now_prepared : v prepared ≡ put_bit true (u prepared) s.0
  unfolding noted
  now_prepared = at prepared

  own_on : (t : ℕ) → GoesOn t u v
  unfolding noted Only
  own_on t = record {
    after_commit = λ q. subst (λ (n : ℕ). (2 ≤ n) × (n ≤ 3)) (sym (at phase)) q;
    same_participants = at participants;
    still_prepared = λ q. ap (λ (w : ℕ). bit w t) (at prepared) ∙ go (ℕ_discrete t s.0) q;
    still_unapplied = λ q. ap (λ (w : ℕ). bit w t) (at applied) ∙ q;
    sets = (else_same qs u (refl, tt)).sets;
  }
    where
      go : Dec (t ≡ s.0) → bit (u prepared) t ≡ true → bit (put_bit true (u prepared) s.0) t ≡ true
      go (yes e) q = subst (λ (x : ℕ). bit (put_bit true (u prepared) s.0) x ≡ true) (sym e) (bit_put_same true (u prepared) s.0)
      go (no n) q = bit_put_other true (u prepared) s.0 t n ∙ q

  goes_on : (t : ℕ) → GoesOn t u (client_of m' c.0)
  goes_on t = subst (GoesOn t u) (sym (both_client m s.0 c.0 ps qs)) (own_on t)

  -- what c has locked it holds now
  now_held : (o : Obj) (i : ℕ) (role : Bool) → find u Reads (number o) ≡ Some i → U.locked_at low s.0 (U.read_item u i) ≡ true
      → (role ≡ true → has u Writes (number o) ≡ true) → Held z s.0 m' role c.0 (number o)
  unfolding has
  now_held o i role e b w =
      let noted_now : client_of m' c.0 prepared ≡ v prepared = ap (λ (f : ClientWord → ℕ). f prepared) (both_client m s.0 c.0 ps qs) in
      let g = goes_on s.0 in (
        record {
          after_commit = g.after_commit (omega (arith, now), omega (arith, now));
          takes_part = ap (λ (x : ℕ). bit x s.0) g.same_participants ∙ part;
          has_prepared = ap (λ (x : ℕ). bit x s.0) (noted_now ∙ now_prepared) ∙ bit_put_same true (u prepared) s.0;
          not_applied = g.still_unapplied (nothing_applied k j slots al m L M c R now s);
          place = i;
          found = same_read u (client_of m' c.0) 0 0 0 g.sets (number o) ∙ e;
          locks = locked_same z s.0 m m' c.0 g i ∙ b;
        },
        λ q. ap is_at (same_written u (client_of m' c.0) 0 0 0 g.sets (number o)) ∙ w q,
      )

  -- those whom a lock's word named before hold it still
  before : (o : Obj) → InStore k j slots o → lock_kept k j slots p s o ≡ true → (role : Bool) (d : ℕ) → d < suc j
      → names role d (p (lock_of (object_of (number o)))) ≡ true → Held z s.0 m' role d (number o)
  before o hi kept role d l e =
      each_held k j slots m m' c.0 (both_other m s.0 c.0 ps qs) s (λ _ _. goes_on s.0) role d (number o)
      (held_by z s.0 m (number o) (p (lock_of (object_of (number o)))) (S s o hi kept) role d l e)

  at_server : LocksSound k j slots m' s
  unfolding U.item_of
  at_server o hi kept = lock_from z s.0 m' (number o) w' (in_range_now now_swept) (named now_swept)
    where
      w : ℕ
      w = p (lock_of (object_of (number o)))

      w' : ℕ
      w' = m' (server s.0 (lock_of (object_of (number o))))

      Now : Type 0
      Now = Swept k j slots al u fit y shown s low el p (λ i. locked (U.read_item u i).written c.0) o hi kept w'

      now_swept : Now
      now_swept =
          subst (Swept k j slots al u fit y shown s low el p (λ i. locked (U.read_item u i).written c.0) o hi kept)
          (sym (ap (λ (f : Place → ℕ). f (lock_of (object_of (number o)))) (both_server m s.0 c.0 ps qs)))
          (locked_swept k j slots al u fit y shown s low el p c.0 o hi kept)

      in_range_now : Now → lock_in_range (suc j) w' ≡ true
      in_range_now (inl q) =
          subst (λ (x : ℕ). lock_in_range (suc j) x ≡ true) (sym q.2) (locked_range (suc j) w few (S s o hi kept).range c.0 c.1 (U.read_item u q.0).written)
      in_range_now (inr q) = subst (λ (x : ℕ). lock_in_range (suc j) x ≡ true) (sym q.1) (S s o hi kept).range

      named : Now → (role : Bool) (d : ℕ) → d < suc j → names role d w' ≡ true → Held z s.0 m' role d (number o)
      named (inr q) role d l e = before o hi kept role d l (subst (λ (x : ℕ). names role d x ≡ true) q.1 e)
      named (inl q) role d l e =
          go (locked_names c.0 w (omega (arith, few, c.1)) (U.read_item u q.0).written role d (subst (λ (x : ℕ). names role d x ≡ true) q.2 e))
        where
          is_o : number_at u Reads q.0 ≡ number o
          is_o = (found_at u Reads (number o) q.0 q.1.0).1

          go : ((d ≡ c.0) × (role ≡ true → (U.read_item u q.0).written ≡ true)) ⊎ (names role d w ≡ true) → Held z s.0 m' role d (number o)
          go (inr b) = before o hi kept role d l b
          go (inl b) =
              subst (λ (x : ℕ). Held z s.0 m' role x (number o)) (sym b.0)
              (now_held o q.0 role q.1.0 q.1.1 (λ r. ap (has u Writes) (sym is_o) ∙ b.1 r))

  pub prepare_locks : (t : Fin 8) → LocksSound k j slots (changed whole m (preparing (store k j slots) m c.0 s.0)) t
  prepare_locks t = go (Fin-discrete 8 t s)
    where
      go : Dec (t ≡ s) → LocksSound k j slots m' t
      go (yes e) = subst (LocksSound k j slots m') (sym e) at_server
      go (no n) =
          unstored k j slots m m' c.0 (both_other m s.0 c.0 ps qs) t (λ _ _. goes_on t.0)
          (λ a _. ap (λ (p : Place → ℕ). p a) (both_else m s.0 c.0 ps qs t.0 (λ q. n (native.Mathlib.Fin.val_path q)))) (S t)
