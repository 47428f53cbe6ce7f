-- Laws of the bits of a word: one bit put, bits shifted and masked.
use Rattle.std.specs.Prelude.{◌≡◌, refl, Bool, true, false, eqb}
use Rattle.std.proofs.Common.{ap, ◌∙◌, sym, true≢false, div-one, one-add, shr-shr}
use Prim.Native.Nat.{ℕ, zero, suc, ◌+◌, ◌-◌, ◌*◌, ◌/◌, ◌%◌, ◌^◌, ◌≤◌, ◌<◌}
use Rattle.std.proofs.Math.Nat.{pow-suc}
use native.Mathlib.Omega.{arith}
use Rattle.std.proofs.lemmas.Bool.{eqb-false}
use Rattle.std.specs.Int.Bits.{bit_or, or_step, or_zero_r}
use Rattle.std.proofs.Math.Pow.{pow-lt}
use Rattle.base.proofs.Laws.Test.{one_if_is, one_if_small}
use Rattle.base.specs.Test.{one_if}
use Rattle.memory.specs.Bit.{bit, put_bit}

-- 5 is the set of 0 and 2
pub bit_sample : (bit 5 1 ≡ false) × (bit 5 2 ≡ true) × (put_bit true 5 1 ≡ 7) × (put_bit false 5 2 ≡ 1)
unfolding bit put_bit
bit_sample = (refl, refl, refl, refl)

-- ---- the bit that was put is the bit read, and others stay
module _ (b : Bool) where
  low : (n : ℕ) → (n * 2 + one_if b) % 2 ≡ one_if b
  low n = omega (arith, one_if_small b)

  low_half : (n : ℕ) → (n * 2 + one_if b) / 2 ≡ n
  low_half n = omega (arith, one_if_small b)

  pub bit_put_same : (w i : ℕ) → bit (put_bit b w i) i ≡ b
  unfolding bit put_bit
  bit_put_same w zero = rw (low (w / 2)) (one_if_is b)
  bit_put_same w (suc i) =
      let e : (put_bit b (w / 2) i * 2 + w % 2) / 2 ≡ put_bit b (w / 2) i = omega arith in
      rw e (bit_put_same (w / 2) i)

  pub bit_put_other : (w i j : ℕ) → ¬ (j ≡ i) → bit (put_bit b w i) j ≡ bit w j
  unfolding bit put_bit
  bit_put_other w zero zero h = absurd (h refl)
  bit_put_other w zero (suc j) h = rw (low_half (w / 2))
  bit_put_other w (suc i) zero h =
      let e : (put_bit b (w / 2) i * 2 + w % 2) % 2 ≡ w % 2 = omega arith in
      rw e
  bit_put_other w (suc i) (suc j) h =
      let e : (put_bit b (w / 2) i * 2 + w % 2) / 2 ≡ put_bit b (w / 2) i = omega arith in
      rw e (bit_put_other (w / 2) i j (λ k. h (ap suc k)))

  -- a word of n bits stays one
  pub put_lt : (n w i : ℕ) → i < n → w < 2 ^ n → put_bit b w i < 2 ^ n
  unfolding put_bit
  put_lt zero w i h l = absurd (omega arith)
  put_lt (suc n) w zero h l =
      let p : w < 2 ^ n * 2 = rw pow-suc at l in
      rw pow-suc (omega (arith, one_if_small b))
  put_lt (suc n) w (suc i) h l =
      let p : w < 2 ^ n * 2 = rw pow-suc at l in
      rw pow-suc (omega (arith, put_lt n (w / 2) i (omega arith) (omega arith)))

-- ---- the forms of code
pub bit_shifted : (w i : ℕ) → eqb (w / 2 ^ i % 2) 1 ≡ bit w i
unfolding bit
bit_shifted w zero = rw div-one
bit_shifted w (suc i) =
    let e : w / 2 / 2 ^ i ≡ w / 2 ^ suc i = shr-shr w 1 i ∙ ap (λ (k : ℕ). w / 2 ^ k) (one-add i) in
    rw (← e) (bit_shifted (w / 2) i)

pub put_or : (w i : ℕ) → bit_or w (2 ^ i) ≡ put_bit true w i
unfolding put_bit
put_or w zero = rw (or_step w 1, or_zero_r (w / 2)) (omega arith)
put_or w (suc i) =
    let p : 2 ^ suc i ≡ 2 ^ i * 2 = pow-suc 2 i in
    let h : 2 ^ suc i / 2 ≡ 2 ^ i = omega arith in
    let z : 2 ^ suc i % 2 ≡ 0 = omega arith in
    rw (or_step w (2 ^ suc i), h, z, put_or (w / 2) i) (omega arith)

put_plus : (w i : ℕ) → put_bit false w i + 2 ^ i ≡ put_bit true w i
unfolding put_bit
put_plus w zero = omega arith
put_plus w (suc i) =
    let p : 2 ^ suc i ≡ 2 ^ i * 2 = pow-suc 2 i in
    omega (arith, put_plus (w / 2) i)

pub one_shifted : (i : ℕ) → i < 64 → 1 * 2 ^ i % 18446744073709551616 ≡ 2 ^ i
one_shifted i h = let p : 2 ^ i < 2 ^ 64 = pow-lt {i = i} {j = 64} h in omega arith

pub put_shifted : (w i : ℕ) → i < 64 → bit_or w (1 * 2 ^ i % 18446744073709551616) ≡ put_bit true w i
put_shifted w i h = rw (one_shifted i h) (put_or w i)

pub above_shifted : (w i r : ℕ) → i < 64 → r ≡ put_bit true w i → 1 * 2 ^ i % 18446744073709551616 ≤ r
above_shifted w i r h e = omega (arith, one_shifted i h, put_plus w i)

pub minus_shifted : (w i r : ℕ) → i < 64 → r ≡ put_bit true w i → r - 1 * 2 ^ i % 18446744073709551616 ≡ put_bit false w i
minus_shifted w i r h e = omega (arith, one_shifted i h, put_plus w i)

-- ---- the empty set
pub no_bits : (n w : ℕ) → w < 2 ^ n → ((i : ℕ) → i < n → bit w i ≡ false) → w ≡ 0
unfolding bit
no_bits zero w l h = omega arith
no_bits (suc n) w l h =
    let p : w < 2 ^ n * 2 = rw pow-suc at l in
    let e : w % 2 ≡ 1 → ⊥ = eqb-false (w % 2) 1 (h 0 (omega arith)) in
    let z : w / 2 ≡ 0 = no_bits n (w / 2) (omega arith) (λ i g. h (suc i) (omega arith)) in
    omega arith

pub zero_bit : (i : ℕ) → bit 0 i ≡ false
unfolding bit
zero_bit zero = refl
zero_bit (suc i) = zero_bit i

-- a word of n bits has no others
pub bit_below : (n w i : ℕ) → w < 2 ^ n → bit w i ≡ true → i < n
unfolding bit
bit_below zero w i l h =
    let z : w ≡ 0 = omega arith in
    absurd (true≢false (sym h ∙ ap (λ (x : ℕ). bit x i) z ∙ zero_bit i))
bit_below (suc n) w zero l h = omega arith
bit_below (suc n) w (suc i) l h =
    let p : w < 2 ^ n * 2 = rw pow-suc at l in
    omega (arith, bit_below n (w / 2) i (omega arith) h)

-- ---- bits put one after the other
pub put_twice : (a b : Bool) (w i : ℕ) → put_bit a (put_bit b w i) i ≡ put_bit a w i
unfolding put_bit
put_twice a b w zero = let e : (w / 2 * 2 + one_if b) / 2 ≡ w / 2 = omega (arith, one_if_small b) in rw e
put_twice a b w (suc i) =
    let e : (put_bit b (w / 2) i * 2 + w % 2) / 2 ≡ put_bit b (w / 2) i = omega arith in
    let f : (put_bit b (w / 2) i * 2 + w % 2) % 2 ≡ w % 2 = omega arith in
    rw (e, f, put_twice a b (w / 2) i)

pub put_swap : (a b : Bool) (w i j : ℕ) → ¬ (i ≡ j) → put_bit a (put_bit b w i) j ≡ put_bit b (put_bit a w j) i
unfolding put_bit
put_swap a b w zero zero d = absurd (d refl)
put_swap a b w zero (suc j) d =
    let e : (w / 2 * 2 + one_if b) / 2 ≡ w / 2 = omega (arith, one_if_small b) in
    let f : (w / 2 * 2 + one_if b) % 2 ≡ one_if b = omega (arith, one_if_small b) in
    let g : (put_bit a (w / 2) j * 2 + w % 2) / 2 ≡ put_bit a (w / 2) j = omega arith in
    rw (e, f, g)
put_swap a b w (suc i) zero d =
    let e : (w / 2 * 2 + one_if a) / 2 ≡ w / 2 = omega (arith, one_if_small a) in
    let f : (w / 2 * 2 + one_if a) % 2 ≡ one_if a = omega (arith, one_if_small a) in
    let g : (put_bit b (w / 2) i * 2 + w % 2) / 2 ≡ put_bit b (w / 2) i = omega arith in
    rw (e, f, g)
put_swap a b w (suc i) (suc j) d =
    let e : (put_bit b (w / 2) i * 2 + w % 2) / 2 ≡ put_bit b (w / 2) i = omega arith in
    let f : (put_bit b (w / 2) i * 2 + w % 2) % 2 ≡ w % 2 = omega arith in
    let g : (put_bit a (w / 2) j * 2 + w % 2) / 2 ≡ put_bit a (w / 2) j = omega arith in
    let h : (put_bit a (w / 2) j * 2 + w % 2) % 2 ≡ w % 2 = omega arith in
    rw (e, f, g, h, put_swap a b (w / 2) i j (λ k. d (ap suc k)))

pub put_none : (i : ℕ) → put_bit false 0 i ≡ 0
unfolding put_bit
put_none zero = refl
put_none (suc i) = rw (put_none i)
