-- Laws of the bits of words: masks, trailing zeros, one bit replaced, and where a slot's bit stands in the words.
use Rattle.std.specs.Prelude.{◌≡◌, refl, Bool, true, false, not, List, [], ◌∷◌, ◌++◌, map, ℕ, zero, suc, ◌+◌, ◌-◌, ◌*◌, ◌/◌, ◌%◌, ◌^◌, ◌≤◌, ◌<◌, eqb, length, take, drop, get_or, set, replicate}
use Rattle.std.proofs.Common.{sym, ap, ◌∙◌, subst, pow-suc, zero-add, suc-add, mul-suc, le_of_suc-le-suc, one-add, arith, length-append, length-take, drop_at, get_or-append-add, get_or-take, length-take-le}
use Rattle.std.proofs.Math.Option.{Option, none, some}
use Rattle.std.proofs.Math.Decide.{dec_lt}
use Rattle.std.specs.Int.Bits.{bit_and}
use Rattle.std.proofs.lemmas.Nat.{and_shr, and_mod}
use Rattle.std.specs.Int.Count.{count_trailing_zeros, under}
use Rattle.std.proofs.Math.ListN.{get_or-append}
use Rattle.std.proofs.lemmas.List.{drop-append-le, set-append_left, take-set-le}
use Rattle.std.proofs.Math.Seq.{drop-append-add, take-set-lt, set_out}
use Rattle.base.proofs.Laws.Test.{one_if_is, one_if_small}
use Rattle.base.specs.Test.{one_if}
use Rattle.memory.specs.Bit.{bit, put_bit}
use Rattle.nodes.specs.Vector.{lowest_free, shifted}
use Rattle.nodes.specs.Flags.{bits, all_flags, flags_in, otherwise, with_flag}

pub length_bits : (n x : ℕ) → length (bits n x) ≡ n
unfolding bits
length_bits zero x = refl
length_bits (suc n) x = ap suc (length_bits n (x / 2))

-- ---- the count of trailing zeros is the place of the lowest bit that is 1
zeros_step : (d k : ℕ) (x : Option ℕ) → d < 2 → under d (otherwise k x) ≡ otherwise (suc k) (elim (not (eqb d 1)) [ true ↦ shifted 1 x | false ↦ some 0 ])
zeros_step zero k none h = refl
zeros_step zero k (some i) h = sym (one-add i)
zeros_step (suc zero) k x h = refl
zeros_step (suc (suc d)) k x h = absurd (omega arith)

lowest_cons : (b : Bool) (l : List Bool) → lowest_free (b ∷ l) ≡ elim b [ true ↦ shifted 1 (lowest_free l) | false ↦ some 0 ]
lowest_cons true l = refl
lowest_cons false l = refl

pub zeros_are : (k y : ℕ) → count_trailing_zeros k y ≡ otherwise k (lowest_free (map not (bits k y)))
unfolding count_trailing_zeros bits
zeros_are zero y = refl
zeros_are (suc k) y =
    rw (zeros_are k (y / 2), lowest_cons (not (eqb (y % 2) 1)) (map not (bits k (y / 2)))) (zeros_step (y % 2) k (lowest_free (map not (bits k (y / 2)))) (omega arith))

-- ---- the bits from p on of a word's complement
not_digit : (d : ℕ) → d < 2 → not (eqb (bit_and (1 - d) 1) 1) ≡ eqb d 1
not_digit zero h = refl
not_digit (suc zero) h = refl
not_digit (suc (suc d)) h = absurd (omega arith)

no_digit : (d : ℕ) → d < 2 → not (eqb (bit_and d 0) 1) ≡ true
no_digit zero h = refl
no_digit (suc zero) h = refl
no_digit (suc (suc d)) h = absurd (omega arith)

-- a word of one bit more: n stands for 2 ^ k, so that what is left is linear
half_complement : (n x : ℕ) → x < n * 2 → (n * 2 - 1 - x) / 2 ≡ n - 1 - x / 2
half_complement n x h = omega arith

last_complement : (n x : ℕ) → x < n * 2 → (n * 2 - 1 - x) % 2 ≡ 1 - x % 2
last_complement n x h = omega arith

half_ones : (n : ℕ) → (n * 2 - 1) / 2 ≡ n - 1
half_ones n = omega arith

last_ones : (n x : ℕ) → x < n * 2 → (n * 2 - 1) % 2 ≡ 1
last_ones n x h = omega arith

half_mask : (n m : ℕ) → (n * 2 - m * 2) / 2 ≡ n - m
half_mask n m = omega arith

last_mask : (n m : ℕ) → (n * 2 - m * 2) % 2 ≡ 0
last_mask n m = omega arith

half_below : (n x : ℕ) → x < n * 2 → x / 2 < n
half_below n x h = omega arith

pub masked_bits : (k p x : ℕ) → p ≤ k → x < 2 ^ k → map not (bits k (bit_and (2 ^ k - 1 - x) (2 ^ k - 2 ^ p))) ≡ replicate p true ++ drop p (bits k x)
unfolding bits
masked_bits zero zero x h g = refl
masked_bits zero (suc p) x h g = absurd (omega arith)
masked_bits (suc k) zero x h g =
    let lt : x < 2 ^ k * 2 = subst (λ (n : ℕ). x < n) (pow-suc 2 k) g in
    rw (pow-suc 2 k, and_mod (2 ^ k * 2 - 1 - x) (2 ^ k * 2 - 1) 1, and_shr (2 ^ k * 2 - 1 - x) (2 ^ k * 2 - 1) 1, half_complement (2 ^ k) x lt, half_ones (2 ^ k), last_complement (2 ^ k) x lt, last_ones (2 ^ k) x lt, not_digit (x % 2) (omega arith))
    (ap (λ (l : List Bool). eqb (x % 2) 1 ∷ l) (masked_bits k 0 (x / 2) (omega arith) (half_below (2 ^ k) x lt)))
masked_bits (suc k) (suc p) x h g =
    let lt : x < 2 ^ k * 2 = subst (λ (n : ℕ). x < n) (pow-suc 2 k) g in
    rw (pow-suc 2 k, pow-suc 2 p, and_mod (2 ^ k * 2 - 1 - x) (2 ^ k * 2 - 2 ^ p * 2) 1, and_shr (2 ^ k * 2 - 1 - x) (2 ^ k * 2 - 2 ^ p * 2) 1, half_complement (2 ^ k) x lt, half_mask (2 ^ k) (2 ^ p), last_mask (2 ^ k) (2 ^ p), no_digit ((2 ^ k * 2 - 1 - x) % 2) (omega arith))
    (ap (λ (l : List Bool). true ∷ l) (masked_bits k p (x / 2) (le_of_suc-le-suc h) (half_below (2 ^ k) x lt)))

-- ---- one bit read or replaced
pub bits_at : (n p x : ℕ) (d : Bool) → p < n → get_or (bits n x) p d ≡ bit x p
unfolding bits bit
bits_at zero p x d h = absurd (omega arith)
bits_at (suc n) zero x d h = refl
bits_at (suc n) (suc p) x d h = bits_at n p (x / 2) d (omega arith)

pub bits_with : (n p x : ℕ) (b : Bool) → p < n → bits n (put_bit b x p) ≡ set (bits n x) p b
unfolding bits put_bit
bits_with zero p x b h = absurd (omega arith)
bits_with (suc n) zero x b h =
    let m : (x / 2 * 2 + one_if b) % 2 ≡ one_if b = omega (arith, one_if_small b) in
    let d : (x / 2 * 2 + one_if b) / 2 ≡ x / 2 = omega (arith, one_if_small b) in
    rw (m, d, one_if_is b)
bits_with (suc n) (suc p) x b h =
    let y : ℕ = put_bit b (x / 2) p in
    let m : (y * 2 + x % 2) % 2 ≡ x % 2 = omega arith in
    let d : (y * 2 + x % 2) / 2 ≡ y = omega arith in
    rw (m, d, bits_with n p (x / 2) b (omega arith))

-- ---- a slot's bit in the words: 64 slots in each
module _ {A : Type 0} where
  set_append_add : (xs ys : List A) (n : ℕ) (a : A) → set (xs ++ ys) (length xs + n) a ≡ xs ++ set ys n a
  set_append_add [] ys n a = rw (zero-add n)
  set_append_add (x ∷ xs) ys n a = rw (suc-add (length xs) n) (ap (λ (l : List A). x ∷ l) (set_append_add xs ys n a))

next_word : (x w p : ℕ) → 64 * suc w + p ≡ length (bits 64 x) + (64 * w + p)
next_word x w p = omega (arith, mul-suc 64 w, length_bits 64 x)

pub word_flags : (ws : List ℕ) (w p : ℕ) → w < length ws → p ≤ 64
    → drop (64 * w + p) (all_flags ws) ≡ drop p (bits 64 (get_or ws w 0)) ++ drop (64 * w + 64) (all_flags ws)
unfolding all_flags
word_flags [] w p h g = absurd (omega arith)
word_flags (x ∷ ws) zero p h g =
    let z : 64 * 0 + p ≡ p = omega arith in
    let le : p ≤ length (bits 64 x) = omega (arith, length_bits 64 x) in
    rw (z, drop-append-le p (bits 64 x) (all_flags ws) le, drop_at (bits 64 x) (all_flags ws) 64 (length_bits 64 x))
word_flags (x ∷ ws) (suc w) p h g =
    rw (next_word x w p, next_word x w 64, drop-append-add (bits 64 x) (all_flags ws) (64 * w + p), drop-append-add (bits 64 x) (all_flags ws) (64 * w + 64))
    (word_flags ws w p (omega arith) g)

pub length_flags : (ws : List ℕ) → length (all_flags ws) ≡ 64 * length ws
unfolding all_flags
length_flags [] = refl
length_flags (x ∷ ws) = simp length-append (omega (arith, length_bits 64 x, length_flags ws, mul-suc 64 (length ws)))

pub flag_at : (ws : List ℕ) (w p : ℕ) (d : Bool) → w < length ws → p < 64 → get_or (all_flags ws) (64 * w + p) d ≡ bit (get_or ws w 0) p
unfolding all_flags
flag_at [] w p d h g = absurd (omega arith)
flag_at (x ∷ ws) zero p d h g =
    let z : 64 * 0 + p ≡ p = omega arith in
    let lt : p < length (bits 64 x) = omega (arith, length_bits 64 x) in
    rw (z, get_or-append (bits 64 x) (all_flags ws) d p lt) (bits_at 64 p x d g)
flag_at (x ∷ ws) (suc w) p d h g = rw (next_word x w p, get_or-append-add (bits 64 x) (all_flags ws) (64 * w + p) d) (flag_at ws w p d (omega arith) g)

with_word : (ws : List ℕ) (w p : ℕ) (b : Bool) → w < length ws → p < 64
    → all_flags (set ws w (put_bit b (get_or ws w 0) p)) ≡ set (all_flags ws) (64 * w + p) b
unfolding all_flags
with_word [] w p b h g = absurd (omega arith)
with_word (x ∷ ws) zero p b h g =
    let z : 64 * 0 + p ≡ p = omega arith in
    let lt : p < length (bits 64 x) = omega (arith, length_bits 64 x) in
    rw (z, bits_with 64 p x b g, set-append_left (bits 64 x) (all_flags ws) p b lt)
with_word (x ∷ ws) (suc w) p b h g =
    rw (next_word x w p, set_append_add (bits 64 x) (all_flags ws) (64 * w + p) b, with_word ws w p b (omega arith) g)

take_set : {A : Type 0} (n i : ℕ) (l : List A) (a : A) → i < length l → take n (set l i a) ≡ set (take n l) i a
take_set n i l a h = go (dec_lt i n)
  where
    go : Dec (i < n) → take n (set l i a) ≡ set (take n l) i a
    go (yes p) = take-set-lt n l i a p
    go (no q) = let e : length (take n l) ≤ i = omega (arith, length-take n l) in take-set-le n l i a (omega arith) ∙ sym (set_out (take n l) i a e)

-- the flags after one was replaced
pub flags_with : (slots : ℕ) (ws : List ℕ) (i : ℕ) (b : Bool) → i < 64 * length ws → flags_in slots (with_flag ws i b) ≡ set (flags_in slots ws) i b
unfolding flags_in with_flag
flags_with slots ws i b h =
    let z : 64 * (i / 64) + i % 64 ≡ i = omega arith in
    let e : all_flags (set ws (i / 64) (put_bit b (get_or ws (i / 64) 0) (i % 64))) ≡ set (all_flags ws) i b =
    with_word ws (i / 64) (i % 64) b (omega arith) (omega arith) ∙ rw z in
    rw e (take_set slots i (all_flags ws) b (omega (arith, length_flags ws)))

-- ---- what the functions on flags compute
pub flag_read : (ws : List ℕ) (i : ℕ) (r : Bool) → length ws ≡ 16 → i < 1024 → r ≡ bit (get_or ws (i / 64) 0) (i % 64) → r ≡ get_or (all_flags ws) i false
flag_read ws i r l h e =
    let z : 64 * (i / 64) + i % 64 ≡ i = omega arith in
    e ∙ sym (subst (λ (k : ℕ). get_or (all_flags ws) k false ≡ bit (get_or ws (i / 64) 0) (i % 64)) z (flag_at ws (i / 64) (i % 64) false (omega arith) (omega arith)))

pub flag_written : (ws : List ℕ) (i y : ℕ) (b c : Bool) → y ≡ put_bit c (get_or ws (i / 64) 0) (i % 64) → b ≡ c → set ws (i / 64) y ≡ with_flag ws i b
unfolding with_flag
flag_written ws i y b c e q = rw (e, q)

-- ---- the flags of so many slots
pub flags_at : (slots : ℕ) (ws : List ℕ) (i : ℕ) (d : Bool) → i < slots → get_or (flags_in slots ws) i d ≡ get_or (all_flags ws) i d
unfolding flags_in
flags_at slots ws i d h = get_or-take slots (all_flags ws) i d h

pub length_slots : (slots : ℕ) (ws : List ℕ) → slots ≤ 64 * length ws → length (flags_in slots ws) ≡ slots
unfolding flags_in
length_slots slots ws h = length-take-le slots (all_flags ws) (omega (arith, length_flags ws))
