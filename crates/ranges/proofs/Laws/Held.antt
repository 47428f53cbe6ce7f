-- WHAT IS JUDGED OF LOCKS, "a lock's transaction or its write": in a sound store it is in range.
use Rattle.std.specs.Prelude.{◌≡◌, refl, Bool, false, ◌&&◌, ◌||◌, ◌⊎◌}
use Rattle.std.proofs.Common.{sym, ◌∙◌, subst, arith, eq-eqb, lt-ltb, le-ltb, le-leb}
use Rattle.std.proofs.Math.Bool.{true, not}
use Prim.Native.Nat.{ℕ, suc, ◌+◌, ◌-◌, ◌≤◌, ◌<◌, Fin}
use Rattle.std.proofs.Math.Decide.{dec_lt}
use Rattle.memory.specs.Bit.{bit}
use Rattle.operations.specs.Object.{Obj}
use Rattle.nodes.specs.Object.{object_of}
use Rattle.server.specs.Object.{lock_of}
use Rattle.server.specs.Laws.Lock.{reads, writes, range_writes}
use Rattle.client.specs.declared.part.Set.TheVariants.{Reads}
use Rattle.client.specs.Layout.{ClientWord, phase, prepared, writes_count}
use Rattle.client.specs.Record.{number, number_in_store}
use Rattle.client.specs.Sets.{count, number_at}
use Rattle.client.specs.Fits.{fit_to_unlock}
use Rattle.client.specs.Laws.Ranges.{client_fits}
use Rattle.steps.specs.declared.sizes.Sizes.{Sizes}
use Rattle.steps.specs.Whole.{Address, server}
use Rattle.steps.proofs.Laws.Stores.{client_of, server_of}
use Rattle.steps.specs.Uses.{item_of, read_item, locked_at}
use Rattle.demand.proofs.Laws.Numbers.{obj_of, number_obj, store_obj}
use Rattle.demand.proofs.Laws.Shows.{T, InStore, lock_kept, SlotShown}
use Rattle.demand.proofs.Laws.Aborted.{prepared_late}
use Rattle.demand.proofs.Laws.Held.{every_below}
use Rattle.demand.proofs.Laws.Locking.{here_kept}
use Rattle.demand.proofs.Laws.Turns.{store}
use Rattle.ranges.specs.Laws.Sound.{Holds, LockSound, SoundStore}
use Rattle.ranges.proofs.Laws.Sets.{part_fits}
use Rattle.ranges.proofs.Laws.Judged.{read_kind, written_kind, fits_to_abort, fits_to_unlock}
use Rattle.protocol.specs.Machine as P
use Rattle.steps.specs.Judge as J

-- where a test holds, another is true
unless : (a b : Bool) → (a ≡ true → b ≡ true) → (not a || b) ≡ true
unless true b h = h refl
unless false b h = refl

module _ (k j slots : ℕ) (few : suc j ≤ 16) (m : Address → ℕ) (W : SoundStore k j slots m) where
  abbrev z : Sizes
  z = store k j slots

  running_now : (s d x : ℕ) → Holds z m s d x → J.has_transaction z m d ≡ true
  running_now s d x h = rw (le-leb 1 (client_of m d phase) (omega (arith, h.after_commit.0)), le-leb (client_of m d phase) 3 h.after_commit.1)

  -- a lock's word that is sound
  holders_now : (s x w : ℕ) → LockSound z m s x w → J.holders_fit z m x w ≡ true
  unfolding J.holders_fit reads writes
  holders_now s x w h = go (dec_lt w 65536)
    where
      -- many readers, or one writer
      reader : w < 65536 → (d : ℕ) → d < suc j → bit w d ≡ true → J.has_transaction z m d ≡ true
      reader q d l b = running_now s d x (h.readers d l (rw (lt-ltb w 65536 q, b)))

      d : ℕ
      d = w - 65536

      is_writer : 65536 ≤ w → writes d w ≡ true
      is_writer q = eq-eqb w (65536 + d) (omega arith)

      writer : (l : d < suc j) → writes d w ≡ true → (J.has_transaction z m d && J.writes z m d x) ≡ true
      writer l e =
          let q = h.writer d l e in
          let n = le-leb (client_of m d writes_count) 48 ((W.parts (d, l)).fields.within 11 (omega arith)) in
          rw (running_now s d x q.0, n, q.1)

      go : Dec (w < 65536) → J.holders_fit z m x w ≡ true
      go (yes q) = rw (lt-ltb w 65536 q) (every_below (suc j) (λ d. not (bit w d) || J.has_transaction z m d) (λ d l. unless (bit w d) (J.has_transaction z m d) (reader q d l)))
      go (no n) =
          let q : 65536 ≤ w = omega arith in
          rw (le-ltb w 65536 q) (writer (range_writes (suc j) w few h.range d (is_writer q)) (is_writer q))

  -- the lock of the object o at a server that keeps it
  lock_judged : (s : Fin 8) (o : Obj) → InStore k j slots o → lock_kept k j slots (server_of m s.0) s o ≡ true
      → J.lock_fits z m s.0 (number o) ≡ true
  unfolding J.lock_fits
  lock_judged s o hi kept =
      let sound = W.locks s o hi kept in
      let w = m (server s.0 (lock_of (object_of (number o)))) in
      rw sound.range (holders_now s.0 (number o) w sound)

  -- of the object with number x
  pub number_judged : (s : Fin 8) (x : ℕ) → number_in_store slots x ≡ true → lock_kept k j slots (server_of m s.0) s (obj_of x) ≡ true
      → J.lock_fits z m s.0 x ≡ true
  number_judged s x hi kept =
      subst (λ (y : ℕ). J.lock_fits z m s.0 y ≡ true) (number_obj x) (lock_judged s (obj_of x) (sym (store_obj slots x) ∙ hi) kept)

  -- ---- what is unlocked
  module _ (al : slots ≤ 1024) (c : Fin (suc j)) (y : P.Slot (T k j slots)) (shown : SlotShown k j slots (client_of m c.0) y) where
    abbrev u : ClientWord → ℕ
    u = client_of m c.0

    abbrev low : ℕ
    low = J.lowest_participant z m c.0

    fit : client_fits slots u ≡ true
    fit = part_fits slots u (W.parts c)

    -- the kinds of an item of the read set, as read and as written
    pub kinds_judged : (n : ℕ) → n < count u Reads → ((read_item u n).read_fits && (read_item u n).written_fits) ≡ true
    unfolding item_of
    kinds_judged n l = rw (read_kind slots u (W.parts c) n l) (written_kind slots u (W.parts c) (number_at u Reads n))

    -- an item of the read set that is locked at s
    pub item_judged : 2 ≤ u phase → (s : Fin 8) (n : ℕ) → n < count u Reads → locked_at low s.0 (read_item u n) ≡ true
        → J.lock_fits z m s.0 (read_item u n).number ≡ true
    unfolding item_of
    item_judged late s n l b =
        number_judged s (number_at u Reads n) ((W.parts c).sets.read n l).inside
        (here_kept k j slots al u fit y shown s low (shown.lowest_as late) (server_of m s.0) n l b)

    pub unlock_judged : 2 ≤ u phase → (s : Fin 8) → J.unlock_fits z m c.0 s.0 ≡ true
    unfolding J.unlock_fits
    unlock_judged late s =
        every_below (count u Reads) (λ n. J.item_unlocks z m c.0 s.0 (read_item u n))
        (λ n l. rw (kinds_judged n l) (unless _ _ (item_judged late s n l)))

    pub abort_judged : (u phase ≡ 1) ⊎ (u phase ≡ 2) → J.abort_fits z m c.0 ≡ true
    unfolding J.abort_fits
    abort_judged undecided =
        rw (fits_to_abort slots u (W.parts c))
        (every_below 8 (λ s. not (bit (u prepared) s) || (fit_to_unlock slots u && J.unlock_fits z m c.0 s))
        (λ s l. unless (bit (u prepared) s) (fit_to_unlock slots u && J.unlock_fits z m c.0 s)
        (λ b. rw (fits_to_unlock slots u (W.parts c)) (unlock_judged (prepared_late k j slots u y shown s b undecided) (s, l)))))
