-- What a lock's word says of each client, and that locking and unlocking change one client's part of it alone.
use Rattle.std.specs.Prelude.{◌≡◌, refl, Bool, ◌&&◌, not, ℕ, ◌+◌, ◌≤◌, ◌<◌, ◌^◌, eqb, ltb}
use Rattle.std.proofs.Common.{sym, ◌∙◌, pow_mono, pow_pos}
use Rattle.std.proofs.Math.Bool.{true, false}
use native.Mathlib.Omega.{arith}
use Rattle.std.proofs.Math.Decide.{dec_lt, ℕ_discrete}
use borrow.Author.Tests.{eq-eqb, ne_eqb, lt-ltb, le-ltb, eqb-true, not-false, ltb-true}
use Rattle.memory.specs.Bit.{put_bit, bit}
use Rattle.server.specs.declared.lock.Use.TheVariants.{Fetch, Write}
use Rattle.server.specs.Lock.{busy, locked, unlocked, lock_in_range}
use Rattle.base.specs.Test.{not_both}
use Rattle.memory.proofs.Laws.Bit.{bit_put_same, bit_put_other, put_lt, zero_bit, bit_below}
use Rattle.server.specs.declared.lock.Use.{Use}

-- client 3 reads; client 1 reads too; then 3 may not write, but may once 1 has unlocked; client 3 writes, and 1 may not even fetch
pub lock_sample : let w = locked false 1 (locked false 3 0) in
    (w ≡ 10) × (busy Write 3 w ≡ true) × (busy Write 3 (unlocked 1 w) ≡ false) × (busy Fetch 1 (locked true 3 8) ≡ true)
unfolding busy locked unlocked put_bit
lock_sample = (refl, refl, refl, refl)

-- does client c read, does it write
unfoldable pub reads : ℕ → ℕ → Bool
reads c w = ltb w 65536 && bit w c

unfoldable pub writes : ℕ → ℕ → Bool
writes c w = eqb w (65536 + c)

-- a word is a set of readers, or not
reads_set : (c w : ℕ) → w < 65536 → reads c w ≡ bit w c
unfolding reads
reads_set c w h = rw (lt-ltb w 65536 h)

reads_none : (c w : ℕ) → 65536 ≤ w → reads c w ≡ false
unfolding reads
reads_none c w h = rw (le-ltb w 65536 h)

writes_none : (c w : ℕ) → w < 65536 → writes c w ≡ false
unfolding writes
writes_none c w h = ne_eqb w (65536 + c) (λ e. omega arith)

writes_other : (c d w : ℕ) → w ≡ 65536 + c → ¬ (d ≡ c) → writes d w ≡ false
unfolding writes
writes_other c d w e n = ne_eqb w (65536 + d) (λ q. n (omega arith))

still_set : (b : Bool) (c w : ℕ) → c < 16 → w < 65536 → put_bit b w c < 65536
still_set b c w l h = put_lt b 16 w c l h

-- the three ways in which a word stands to client c
data Way (c w : ℕ) : Type 0 where
  set : w < 65536 → Way c w
  mine : w ≡ 65536 + c → Way c w
  other : 65536 ≤ w → ¬ (w ≡ 65536 + c) → Way c w

way : (c w : ℕ) → Way c w
way c w = go (dec_lt w 65536) (ℕ_discrete w (65536 + c))
  where
    go : Dec (w < 65536) → Dec (w ≡ 65536 + c) → Way c w
    go (yes h) d = set h
    go (no h) (yes e) = mine e
    go (no h) (no n) = other (omega arith) n

-- ---- what is not busy is not held by another
pub no_other_writer : (u : Use) (c d w : ℕ) → busy u c w ≡ false → ¬ (d ≡ c) → writes d w ≡ false
unfolding busy
no_other_writer u c d w h n = go (dec_lt w 65536)
  where
    go : Dec (w < 65536) → writes d w ≡ false
    go (yes l) = writes_none d w l
    go (no l) =
        let k : 65536 ≤ w = omega arith in
        let e : not (eqb w (65536 + c)) ≡ false = sym (rw (le-ltb w 65536 k)) ∙ h in
        writes_other c d w (eqb-true w (65536 + c) (not-false (eqb w (65536 + c)) e)) n

pub no_other_reader : (c d w : ℕ) → busy Write c w ≡ false → ¬ (d ≡ c) → reads d w ≡ false
unfolding busy
no_other_reader c d w h n = go (dec_lt w 65536)
  where
    go : Dec (w < 65536) → reads d w ≡ false
    go (no l) = reads_none d w (omega arith)
    go (yes l) =
        let e : not (eqb (put_bit false w c) 0) ≡ false = sym (rw (lt-ltb w 65536 l)) ∙ h in
        let z : put_bit false w c ≡ 0 = eqb-true (put_bit false w c) 0 (not-false (eqb (put_bit false w c) 0) e) in
        reads_set d w l ∙ sym (bit_put_other false w c d n) ∙ rw z (zero_bit d)

-- ---- locked
pub write_locked : (c w : ℕ) → writes c (locked true c w) ≡ true
unfolding writes locked
write_locked c w = eq-eqb (65536 + c) (65536 + c) refl

module _ (c w : ℕ) (l : c < 16) (h : w < 65536) where
  as_set : locked false c w ≡ put_bit true w c
  unfolding locked
  as_set = rw (lt-ltb w 65536 h)

  pub read_locked : reads c (locked false c w) ≡ true
  read_locked = rw as_set (reads_set c (put_bit true w c) (still_set true c w l h) ∙ bit_put_same true w c)

  pub read_locked_other : (d : ℕ) → ¬ (d ≡ c) → reads d (locked false c w) ≡ reads d w
  read_locked_other d n = rw as_set (reads_set d (put_bit true w c) (still_set true c w l h) ∙ bit_put_other true w c d n ∙ sym (reads_set d w h))

-- ---- unlocked
module _ (c w : ℕ) (l : c < 16) where
  of_set : w < 65536 → unlocked c w ≡ put_bit false w c
  unfolding unlocked
  of_set h = rw (lt-ltb w 65536 h)

  of_mine : w ≡ 65536 + c → unlocked c w ≡ 0
  unfolding unlocked
  of_mine e = let k : 65536 ≤ w = omega arith in rw (le-ltb w 65536 k, eq-eqb w (65536 + c) e)

  of_other : 65536 ≤ w → ¬ (w ≡ 65536 + c) → unlocked c w ≡ w
  unfolding unlocked
  of_other h n = rw (le-ltb w 65536 h, ne_eqb w (65536 + c) n)

  pub unlocked_reads : reads c (unlocked c w) ≡ false
  unlocked_reads = go (way c w)
    where
      go : Way c w → reads c (unlocked c w) ≡ false
      go (set h) = rw (of_set h) (reads_set c (put_bit false w c) (still_set false c w l h) ∙ bit_put_same false w c)
      go (mine e) = rw (of_mine e) (reads_set c 0 (omega arith) ∙ zero_bit c)
      go (other h n) = rw (of_other h n) (reads_none c w h)

  pub unlocked_writes : writes c (unlocked c w) ≡ false
  unfolding writes
  unlocked_writes = go (way c w)
    where
      go : Way c w → writes c (unlocked c w) ≡ false
      go (set h) = rw (of_set h) (writes_none c (put_bit false w c) (still_set false c w l h))
      go (mine e) = rw (of_mine e) (writes_none c 0 (omega arith))
      go (other h n) = rw (of_other h n) (ne_eqb w (65536 + c) n)

  pub unlocked_reads_other : (d : ℕ) → ¬ (d ≡ c) → reads d (unlocked c w) ≡ reads d w
  unlocked_reads_other d n = go (way c w)
    where
      go : Way c w → reads d (unlocked c w) ≡ reads d w
      go (set h) = rw (of_set h) (reads_set d (put_bit false w c) (still_set false c w l h) ∙ bit_put_other false w c d n ∙ sym (reads_set d w h))
      go (mine e) = rw (of_mine e) (reads_set d 0 (omega arith) ∙ zero_bit d ∙ sym (reads_none d w (omega arith)))
      go (other h k) = rw (of_other h k)

  pub unlocked_writes_other : (d : ℕ) → ¬ (d ≡ c) → writes d (unlocked c w) ≡ writes d w
  unlocked_writes_other d n = go (way c w)
    where
      go : Way c w → writes d (unlocked c w) ≡ writes d w
      go (set h) = rw (of_set h) (writes_none d (put_bit false w c) (still_set false c w l h) ∙ sym (writes_none d w h))
      go (mine e) = rw (of_mine e) (writes_none d 0 (omega arith) ∙ sym (writes_other c d w e n))
      go (other h k) = rw (of_other h k)

-- a free lock is in range
pub free_range : (n : ℕ) → lock_in_range n 0 ≡ true
unfolding lock_in_range
free_range n = lt-ltb 0 (2 ^ n) (pow_pos n)

-- ---- in range: the clients that a word names are below n, and stay so
module _ (n w : ℕ) (few : n ≤ 16) where
  small : 2 ^ n ≤ 65536
  small = pow_mono {i = n} {j = 16} few

  range_set : w < 65536 → lock_in_range n w ≡ ltb w (2 ^ n)
  unfolding lock_in_range
  range_set h = rw (lt-ltb w 65536 h)

  range_writer : 65536 ≤ w → lock_in_range n w ≡ ltb w (65536 + n)
  unfolding lock_in_range
  range_writer h = rw (le-ltb w 65536 h)

  module _ (ok : lock_in_range n w ≡ true) where
    pub range_reads : (d : ℕ) → reads d w ≡ true → d < n
    range_reads d r = go (dec_lt w 65536)
      where
        go : Dec (w < 65536) → d < n
        go (yes h) = bit_below n w d (ltb-true w (2 ^ n) (sym (range_set h) ∙ ok)) (sym (reads_set d w h) ∙ r)
        go (no h) = absurd (not_both r (reads_none d w (omega arith)))

    pub range_writes : (d : ℕ) → writes d w ≡ true → d < n
    unfolding writes
    range_writes d r =
        let e : w ≡ 65536 + d = eqb-true w (65536 + d) r in
        omega (arith, ltb-true w (65536 + n) (sym (range_writer (omega arith)) ∙ ok))

    readers : w < 65536 → w < 2 ^ n
    readers h = ltb-true w (2 ^ n) (sym (range_set h) ∙ ok)

    module _ (c : ℕ) (l : c < n) where
      set_range : (b : Bool) → w < 65536 → lock_in_range n (put_bit b w c) ≡ true
      unfolding lock_in_range
      set_range b h =
          let p : put_bit b w c < 2 ^ n = put_lt b n w c l (readers h) in
          let q : put_bit b w c < 65536 = omega (arith, small) in
          rw (lt-ltb (put_bit b w c) 65536 q) (lt-ltb (put_bit b w c) (2 ^ n) p)

      pub locked_range : (b : Bool) → lock_in_range n (locked b c w) ≡ true
      unfolding locked lock_in_range
      locked_range true =
          let h : 65536 ≤ 65536 + c = omega arith in
          let g : 65536 + c < 65536 + n = omega arith in
          rw (le-ltb (65536 + c) 65536 h) (lt-ltb (65536 + c) (65536 + n) g)
      locked_range false = go (dec_lt w 65536)
        where
          go : Dec (w < 65536) → lock_in_range n (locked false c w) ≡ true
          go (yes h) = rw (lt-ltb w 65536 h) (set_range true h)
          go (no h) = let k : 65536 ≤ w = omega arith in rw (le-ltb w 65536 k) ok

      pub unlocked_range : lock_in_range n (unlocked c w) ≡ true
      unlocked_range = go (way c w)
        where
          go : Way c w → lock_in_range n (unlocked c w) ≡ true
          go (set h) = rw (of_set c w (omega arith) h) (set_range false h)
          go (mine e) = rw (of_mine c w (omega arith) e) (free_range n)
          go (other h k) = rw (of_other c w (omega arith) h k) ok
