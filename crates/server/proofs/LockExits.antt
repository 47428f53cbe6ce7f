-- Ways out of the code for locks' words: from the facts at hand there to what the contract says.
use mathlib.Core.Path.{◌≡◌, sym, ◌∙◌}
use mathlib.Core.Bool.{Bool, true, false, not}
use Prim.Native.Nat.{ℕ, ◌+◌, ◌*◌, ◌%◌, ◌^◌, ◌≤◌, ◌<◌}
use native.Mathlib.Omega.{arith}
use borrow.Author.Tests.{eq-eqb, ne_eqb, lt-ltb, le-ltb}
use lib.Dec.{eqb, ltb}
use Rattle.memory.specs.Bit.{put_bit}
use Rattle.memory.proofs.Laws.Bit.{one_shifted}
use Rattle.server.specs.declared.lock.Use.{Use}
use Rattle.server.specs.declared.lock.Use.TheVariants.{Fetch, Read, Write}
use Rattle.server.specs.Lock.{busy, locked, unlocked, lock_in_range}

module _ (c w : ℕ) where
  pub busy_writer : (u : Use) → 65536 ≤ w → not (eqb w (65536 + c)) ≡ busy u c w
  unfolding busy
  busy_writer u h = sym (rw (le-ltb w 65536 h))

  pub free_to_fetch : (u : Use) → w < 65536 → u ≡ Fetch → false ≡ busy u c w
  unfolding busy
  free_to_fetch u h e = sym (rw (lt-ltb w 65536 h, e))

  pub free_to_read : (u : Use) → w < 65536 → u ≡ Read → false ≡ busy u c w
  unfolding busy
  free_to_read u h e = sym (rw (lt-ltb w 65536 h, e))

  pub busy_readers : (u : Use) (r : ℕ) → w < 65536 → u ≡ Write → r ≡ put_bit false w c → not (eqb r 0) ≡ busy u c w
  unfolding busy
  busy_readers u r h e q = sym (rw (lt-ltb w 65536 h, e, q))

  pub lock_writing : (b : Bool) → b ≡ true → 65536 + c ≡ locked b c w
  unfolding locked
  lock_writing b e = sym (rw e)

  pub lock_kept : (b : Bool) → b ≡ false → 65536 ≤ w → w ≡ locked b c w
  unfolding locked
  lock_kept b e h = sym (rw (e, locked, le-ltb w 65536 h))

  pub lock_reading : (b : Bool) (r : ℕ) → b ≡ false → w < 65536 → r ≡ put_bit true w c → r ≡ locked b c w
  unfolding locked
  lock_reading b r e h q = q ∙ sym (rw (e, locked, lt-ltb w 65536 h))

  pub unlock_reading : (r : ℕ) → w < 65536 → r ≡ put_bit false w c → r ≡ unlocked c w
  unfolding unlocked
  unlock_reading r h q = q ∙ sym (rw (lt-ltb w 65536 h))

  pub unlock_writing : 65536 ≤ w → w ≡ 65536 + c → 0 ≡ unlocked c w
  unfolding unlocked
  unlock_writing h e = sym (rw (le-ltb w 65536 h, eq-eqb w (65536 + c) e))

  pub unlock_other : 65536 ≤ w → ¬ (w ≡ 65536 + c) → w ≡ unlocked c w
  unfolding unlocked
  unlock_other h e = sym (rw (le-ltb w 65536 h, ne_eqb w (65536 + c) e))

  pub range_writer : 65536 ≤ w → ltb w (65536 + c) ≡ lock_in_range c w
  unfolding lock_in_range
  range_writer h = sym (rw (le-ltb w 65536 h))

  pub range_readers : c ≤ 16 → w < 65536 → ltb w (1 * 2 ^ c % 18446744073709551616) ≡ lock_in_range c w
  unfolding lock_in_range
  range_readers l h = sym (rw (lt-ltb w 65536 h, one_shifted c (omega arith)))

pub ruleset lock_exits =
    (busy_writer, free_to_fetch, free_to_read, busy_readers, lock_writing, lock_kept, lock_reading, unlock_reading, unlock_writing, unlock_other, range_writer, range_readers)
