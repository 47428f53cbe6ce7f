-- LOCKS GIVEN BACK: "An abort unlocks everywhere", "Apply writes and unlocks", and the last apply ends the transaction. The client isn't named then.
use Rattle.std.specs.Prelude.{◌≡◌, Bool, cond, ◌||◌, List, [], ◌++◌, ◌⊎◌}
use Rattle.std.proofs.Math.Path.{refl, ap, subst}
use Rattle.std.proofs.Common.{sym, ◌∙◌, inl, inr, arith}
use Rattle.std.proofs.Math.Bool.{true, false, not}
use Prim.Native.Nat.{ℕ, suc, ◌≤◌, Fin}
use Rattle.std.proofs.Math.Decide.{Fin-discrete}
use Rattle.base.specs.Test.{not_both}
use Rattle.memory.specs.Bit.{bit, put_bit}
use Rattle.memory.proofs.Laws.Bit.{bit_put_other}
use Rattle.layout.specs.Space.{Put, changed}
use Rattle.layout.specs.Step.{and_then}
use Rattle.layout.proofs.Laws.Step.{changed_append}
use Rattle.operations.specs.Object.{Obj}
use Rattle.server.specs.declared.place.Place.{Place}
use Rattle.server.specs.Layout.{places}
use Rattle.nodes.specs.Object.{object_of}
use Rattle.server.specs.Object.{lock_of}
use Rattle.server.specs.Lock.{unlocked, lock_in_range}
use Rattle.server.specs.Laws.Lock.{unlocked_range}
use Rattle.client.specs.Layout.{ClientWord, client_words, phase, participants, prepared, applied}
use Rattle.client.specs.Record.{number}
use Rattle.client.specs.Laws.Ranges.{client_fits}
use Rattle.client.specs.Drops.{drop_used}
use Rattle.client.specs.Life.{reset}
use Rattle.client.specs.Renew.{finish}
use Rattle.client.specs.Course.{noted}
use Rattle.steps.specs.declared.sizes.Sizes.{Sizes}
use Rattle.steps.specs.Whole.{Address, server, whole}
use Rattle.steps.proofs.Laws.Stores.{client_of, server_of}
use Rattle.steps.specs.Judge.{lowest_participant}
use Rattle.steps.specs.Steps.{in_client, covers, unlock_each, store_all, applying, all_applied}
use Rattle.demand.proofs.Laws.Frame.{last, read_after, Only}
use Rattle.demand.specs.Ledger.{Ledger}
use Rattle.demand.proofs.Laws.Shows.{T, InStore, lock_kept, SlotShown, Related}
use Rattle.demand.proofs.Laws.Course.{else_same}
use Rattle.demand.proofs.Laws.Held.{all_at}
use Rattle.demand.proofs.Laws.Locking.{Swept, unlocked_swept}
use Rattle.demand.proofs.Laws.Servers.{both, both_client, both_other, both_server, both_else, is_lock, a_lock}
use Rattle.demand.proofs.Laws.Written.{locks_stay}
use Rattle.demand.proofs.Laws.Aborted.{aborted, aborted_client, aborted_others, aborted_server, prepared_late}
use Rattle.demand.proofs.Laws.Applies.{end_stores}
use Rattle.demand.proofs.Laws.Kept.{reset_phase}
use Rattle.demand.proofs.Laws.Turns.{store}
use Rattle.ranges.specs.Laws.Sound.{Holds, LocksSound}
use Rattle.ranges.proofs.Laws.Words.{names, unlocked_names}
use Rattle.ranges.proofs.Laws.Locks.{GoesOn, held_by, lock_from, other_held, unstored, part_stored}
use Rattle.protocol.specs.Machine as P

-- ---- a lock that c gives back, or hasn't: whom the word w' names w named, and c isn't among them
record GivenBack (n c w w' : ℕ) : Type 0 where
  pub range : lock_in_range n w' ≡ true
  pub others : (role : Bool) (d : ℕ) → names role d w' ≡ true → (¬ (d ≡ c)) × (names role d w ≡ true)

-- so at every lock of a server: its locks are sound, whatever c's part becomes
given_back_locks : (k j slots : ℕ) (m m' : Address → ℕ) (c : ℕ) → ((d : ℕ) → ¬ (d ≡ c) → client_of m' d ≡ client_of m d) → (s : Fin 8)
    → ((o : Obj) → InStore k j slots o → lock_kept k j slots (server_of m s.0) s o ≡ true
    → GivenBack (suc j) c (m (server s.0 (lock_of (object_of (number o))))) (m' (server s.0 (lock_of (object_of (number o))))))
    → LocksSound k j slots m s → LocksSound k j slots m' s
given_back_locks k j slots m m' c others s g S o hi kept =
    let a = server s.0 (lock_of (object_of (number o))) in
    lock_from (store k j slots) s.0 m' (number o) (m' a) (g o hi kept).range
    (λ role d l e. let q = (g o hi kept).others role d e in
    other_held k j slots m m' c others s role d (number o) q.0 (held_by (store k j slots) s.0 m (number o) (m a) (S o hi kept) role d l q.1))

module _ (k j slots : ℕ) (al : slots ≤ 1024) (few : suc j ≤ 16) (m : Address → ℕ) (L : Ledger) (M : P.Machine (T k j slots)) (c : Fin (suc j)) (R : Related k j slots m L M) (fit : client_fits slots (client_of m c.0) ≡ true) (S : (s : Fin 8) → LocksSound k j slots m s) where
  abbrev z : Sizes
  z = store k j slots

  abbrev u : ClientWord → ℕ
  u = client_of m c.0

  abbrev y : P.Slot (T k j slots)
  y = M.slots c

  abbrev shown : SlotShown k j slots u y
  shown = (R.clients c).slot

  abbrev low : ℕ
  low = lowest_participant z m c.0

  -- a lock that c doesn't hold
  not_held : (s : Fin 8) (o : Obj) → InStore k j slots o → lock_kept k j slots (server_of m s.0) s o ≡ true → ¬ (Holds z m s.0 c.0 (number o))
      → let w = m (server s.0 (lock_of (object_of (number o)))) in GivenBack (suc j) c.0 w w
  not_held s o hi kept n =
      let w = m (server s.0 (lock_of (object_of (number o)))) in
      record {
        range = (S s o hi kept).range;
        others = λ role d e. (λ q. n (held_by z s.0 m (number o) w (S s o hi kept) role c.0 c.1 (subst (λ (x : ℕ). names role x w ≡ true) q e)).0, e);
      }

  -- ---- at the server s, whose locks are in p as they were, what is read and locked is unlocked
  module _ (s : Fin 8) (el : y.lowest.0 ≡ low) (p : Place → ℕ) (same : (a : Place) → is_lock a ≡ true → p a ≡ m (server s.0 a)) where
    unlocked_here : (o : Obj) → InStore k j slots o → lock_kept k j slots (server_of m s.0) s o ≡ true
        → let a = lock_of (object_of (number o)) in GivenBack (suc j) c.0 (m (server s.0 a)) (changed places p (unlock_each u c.0 low s.0 p) a)
    unlocked_here o hi kept = go (unlocked_swept k j slots al u fit y shown s low el p c.0 o hi kept)
      where
        a : Place
        a = lock_of (object_of (number o))

        w : ℕ
        w = m (server s.0 a)

        was : p a ≡ w
        was = same a (a_lock (object_of (number o)))

        w' : ℕ
        w' = changed places p (unlock_each u c.0 low s.0 p) a

        go : Swept k j slots al u fit y shown s low el p (λ i. unlocked c.0) o hi kept w' → GivenBack (suc j) c.0 w w'
        go (inl q) =
            subst (GivenBack (suc j) c.0 w) (sym (q.2 ∙ ap (unlocked c.0) was))
            (record {
              range = unlocked_range (suc j) w few (S s o hi kept).range c.0 c.1;
              others = λ role d e. unlocked_names c.0 w (omega (arith, few, c.1)) role d e;
            })
        go (inr q) = subst (GivenBack (suc j) c.0 w) (sym (q.1 ∙ was)) (not_held s o hi kept (λ h. q.0 h.place (h.found, h.locks)))

  -- ---- ABORT: "An abort unlocks everywhere"
  module _ (us : List ℕ) (undecided : (u phase ≡ 1) ⊎ (u phase ≡ 2)) where
    pub abort_locks : (s : Fin 8) → LocksSound k j slots (aborted k j slots m c.0 us) s
    unfolding changed
    abort_locks s =
        given_back_locks k j slots m (aborted k j slots m c.0 us) c.0 (aborted_others k j slots m c.0 us) s
        (λ o hi kept. let a = lock_of (object_of (number o)) in
        subst (GivenBack (suc j) c.0 (m (server s.0 a))) (sym (ap (λ (p : Place → ℕ). p a) (aborted_server k j slots m c.0 us s.0 s.1)))
        (by (bit (u prepared) s.0) refl o hi kept))
        (S s)
      where
        by : (b : Bool) → bit (u prepared) s.0 ≡ b → (o : Obj) → InStore k j slots o → lock_kept k j slots (server_of m s.0) s o ≡ true
            → GivenBack (suc j) c.0 (m (server s.0 (lock_of (object_of (number o)))))
            (changed places (server_of m s.0) (cond b (unlock_each u c.0 low s.0 (server_of m s.0)) []) (lock_of (object_of (number o))))
        by false e o hi kept = not_held s o hi kept (λ h. not_both h.has_prepared e)
        by true e o hi kept = unlocked_here s (shown.lowest_as (prepared_late k j slots u y shown s.0 e undecided)) (server_of m s.0) (λ a _. refl) o hi kept

    pub abort_phase : client_of (aborted k j slots m c.0 us) c.0 phase ≡ 0
    unfolding and_then
    abort_phase =
        let dropped = changed client_words u (drop_used us u) in
        ap (λ (g : ClientWord → ℕ). g phase) (aborted_client k j slots m c.0 us ∙ changed_append client_words (drop_used us u) (reset 0 dropped) u)
        ∙ reset_phase k j slots dropped 0

  -- ---- APPLY at s
  module _ (s : Fin 8) (now : u phase ≡ 3) where
    abbrev p : Place → ℕ
    p = server_of m s.0

    abbrev p₁ : Place → ℕ
    p₁ = changed places p (store_all u s.0 p)

    abbrev stores : List (Put Place)
    stores = and_then places (store_all u s.0) (unlock_each u c.0 low s.0) p

    abbrev note : List (Put ClientWord)
    note = noted applied s.0 u

    abbrev v : ClientWord → ℕ
    v = changed client_words u note

    abbrev m' : Address → ℕ
    m' = both m s.0 c.0 stores note

    at : (a : ClientWord) → v a ≡ last client_words note a (u a)
    at a = read_after client_words note u a

    own_word : (a : ClientWord) → client_of m' c.0 a ≡ last client_words note a (u a)
    own_word a = ap (λ (g : ClientWord → ℕ). g a) (both_client m s.0 c.0 stores note) ∙ at a

    -- elsewhere the client goes on
    goes_on : (t : ℕ) → ¬ (t ≡ s.0) → GoesOn t u (client_of m' c.0)
    unfolding noted Only
    goes_on t n = subst (GoesOn t u) (sym (both_client m s.0 c.0 stores note)) (record {
      after_commit = λ q. subst (λ (n : ℕ). (2 ≤ n) × (n ≤ 3)) (sym (at phase)) q;
      same_participants = at participants;
      still_prepared = λ q. ap (λ (w : ℕ). bit w t) (at prepared) ∙ q;
      still_unapplied = λ q. ap (λ (w : ℕ). bit w t) (at applied) ∙ bit_put_other true (u applied) s.0 t n ∙ q;
      sets = (else_same note u (refl, tt)).sets;
    })

    server_then : server_of m' s.0 ≡ changed places p₁ (unlock_each u c.0 low s.0 p₁)
    unfolding and_then
    server_then = both_server m s.0 c.0 stores note ∙ changed_append places (store_all u s.0 p) (unlock_each u c.0 low s.0 p₁) p

    at_server : LocksSound k j slots m' s
    at_server =
        given_back_locks k j slots m m' c.0 (both_other m s.0 c.0 stores note) s
        (λ o hi kept. let a = lock_of (object_of (number o)) in
        subst (GivenBack (suc j) c.0 (m (server s.0 a))) (sym (ap (λ (g : Place → ℕ). g a) server_then))
        (unlocked_here s (shown.lowest_as (omega (arith, now))) p₁ (locks_stay k j slots al u y shown s p) o hi kept))
        (S s)

    pub apply_locks : (t : Fin 8) → LocksSound k j slots (changed whole m (applying z m c.0 s.0 ++ in_client z m c.0 (noted applied s.0))) t
    apply_locks t = go (Fin-discrete 8 t s)
      where
        go : Dec (t ≡ s) → LocksSound k j slots m' t
        go (yes e) = subst (LocksSound k j slots m') (sym e) at_server
        go (no n) =
            let away : ¬ (t.0 ≡ s.0) = λ q. n (native.Mathlib.Fin.val_path q) in
            unstored k j slots m m' c.0 (both_other m s.0 c.0 stores note) t (λ _ _. goes_on t.0 away)
            (λ a _. ap (λ (p : Place → ℕ). p a) (both_else m s.0 c.0 stores note t.0 away)) (S t)

    -- it has applied wherever it takes part
    pub last_locks : all_applied z m c.0 s.0 ≡ true → (t : Fin 8)
        → LocksSound k j slots (changed whole m (applying z m c.0 s.0 ++ in_client z m c.0 (and_then client_words (noted applied s.0) finish))) t
    unfolding covers noted
    last_locks all t =
        subst (λ (g : Address → ℕ). LocksSound k j slots g t) (sym (end_stores k j slots m c.0 s.0))
        (part_stored k j slots m' c.0 (finish v) apply_locks (λ t x h. absurd (done t h.takes_part h.not_applied)) t)
      where
        done : (t : Fin 8) → bit (client_of m' c.0 participants) t.0 ≡ true → bit (client_of m' c.0 applied) t.0 ≡ false → ⊥
        done t a b =
            not_both (all_at 8 (λ t. not (bit (u participants) t) || bit (put_bit true (u applied) s.0) t) all t.0 t.1)
            (uncovered _ _ (ap (λ (w : ℕ). bit w t.0) (sym (own_word participants)) ∙ a) (ap (λ (w : ℕ). bit w t.0) (sym (own_word applied)) ∙ b))
          where
            uncovered : (a b : Bool) → a ≡ true → b ≡ false → (not a || b) ≡ false
            uncovered a b p q = rw (p, q)
