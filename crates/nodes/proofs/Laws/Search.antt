-- The search for a free slot, word by word.
use Rattle.std.specs.Prelude.{◌≡◌, refl, Bool, true, false, cond, not, List, [], ◌∷◌, ◌++◌, map, ℕ, zero, suc, ◌+◌, ◌-◌, ◌*◌, ◌/◌, ◌%◌, ◌^◌, ◌≤◌, ◌<◌, ltb, length, take, drop, get_or, replicate}
use Rattle.std.proofs.Common.{sym, ap, ◌∙◌, subst, zero-add, arith, length-drop, drop_of_length-le, pow_pos}
use Rattle.std.proofs.Math.Option.{Option, none, some}
use Rattle.std.proofs.Math.Numerals.{add-one}
use Rattle.std.proofs.Math.Decide.{dec_lt}
use borrow.Author.Tests.{lt-ltb, le-ltb}
use Rattle.std.specs.Int.Bits.{bit_and}
use Rattle.std.specs.Int.Count.{count_trailing_zeros}
use Rattle.std.proofs.lemmas.List.{length-replicate}
use Rattle.std.proofs.Math.Pow.{pow-lt}
use Rattle.nodes.specs.Found.{Found}
use Rattle.std.specs.Prelude.{Some, None}
use Rattle.nodes.proofs.Laws.Lists.{drop_take}
use Rattle.nodes.specs.Found.{found}
use Rattle.nodes.proofs.Laws.Found.{found_some, found_none}
use Rattle.nodes.specs.Vector.{shifted, lowest_free, or_else, free_from, first_free}
use Rattle.nodes.specs.Flags.{bits, all_flags, flags_in, otherwise}
use Rattle.nodes.proofs.Laws.Bits.{length_bits, zeros_are, masked_bits, word_flags, length_flags}

-- ---- the lowest free slot
shifted_zero : (x : Option ℕ) → shifted 0 x ≡ x
shifted_zero none = refl
shifted_zero (some i) = ap some (zero-add i)

shifted_twice : (a b : ℕ) (x : Option ℕ) → shifted a (shifted b x) ≡ shifted (a + b) x
shifted_twice a b none = refl
shifted_twice a b (some i) = let e : a + (b + i) ≡ a + b + i = omega arith in rw e

shifted_or : (a : ℕ) (x y : Option ℕ) → shifted a (or_else x y) ≡ or_else (shifted a x) (shifted a y)
shifted_or a none y = refl
shifted_or a (some i) y = refl

lowest_append : (l m : List Bool) → lowest_free (l ++ m) ≡ or_else (lowest_free l) (shifted (length l) (lowest_free m))
lowest_append [] m = sym (shifted_zero (lowest_free m))
lowest_append (false ∷ l) m = refl
lowest_append (true ∷ l) m =
    let e : 1 + length l ≡ suc (length l) = omega arith in
    rw (lowest_append l m, shifted_or 1 (lowest_free l) (shifted (length l) (lowest_free m)), shifted_twice 1 (length l) (lowest_free m), e)

lowest_taken : (p : ℕ) → lowest_free (replicate p true) ≡ none
lowest_taken zero = refl
lowest_taken (suc p) = rw (lowest_taken p)

below : ℕ → Option ℕ → Type 0
below n none = Unit {0}
below n (some i) = i < n

below_shifted : (a n : ℕ) (x : Option ℕ) → below n x → below (a + n) (shifted a x)
unfolding below
below_shifted a n none h = tt
below_shifted a n (some i) h = omega arith

lowest_below : (l : List Bool) → below (length l) (lowest_free l)
unfolding below
lowest_below [] = tt
lowest_below (false ∷ l) = omega arith
lowest_below (true ∷ l) =
    let e : 1 + length l ≡ suc (length l) = omega arith in
    subst (λ (n : ℕ). below n (shifted 1 (lowest_free l))) e (below_shifted 1 (length l) (lowest_free l) (lowest_below l))

-- only what is below n
abbrev limited : ℕ → Option ℕ → Option ℕ
limited n none = none
limited n (some i) = cond (ltb i n) (some i) none

shifted_limited : (a n : ℕ) (x : Option ℕ) → shifted a (limited (n - a) x) ≡ limited n (shifted a x)
shifted_limited a n none = refl
shifted_limited a n (some i) = go (dec_lt (a + i) n)
  where
    go : Dec (a + i < n) → shifted a (cond (ltb i (n - a)) (some i) none) ≡ cond (ltb (a + i) n) (some (a + i)) none
    go (yes p) = rw (lt-ltb i (n - a) (omega arith), lt-ltb (a + i) n p)
    go (no q) = rw (le-ltb i (n - a) (omega arith), le-ltb (a + i) n (omega arith))

limited_zero : (x : Option ℕ) → none ≡ limited 0 x
limited_zero none = refl
limited_zero (some i) = rw (le-ltb i 0 (omega arith))

lowest_take : (n : ℕ) (l : List Bool) → lowest_free (take n l) ≡ limited n (lowest_free l)
lowest_take zero l = limited_zero (lowest_free l)
lowest_take (suc n) [] = refl
lowest_take (suc n) (false ∷ l) = rw (lt-ltb 0 (suc n) (omega arith))
lowest_take (suc n) (true ∷ l) =
    let e : suc n - 1 ≡ n = omega arith in
    ap (shifted 1) (lowest_take n l) ∙ subst (λ (m : ℕ). shifted 1 (limited m (lowest_free l)) ≡ limited (suc n) (shifted 1 (lowest_free l))) e (shifted_limited 1 (suc n) (lowest_free l))

free_flags : (a slots : ℕ) (ws : List ℕ) → free_from a (flags_in slots ws) ≡ limited slots (free_from a (all_flags ws))
unfolding flags_in
free_flags a slots ws =
    rw (drop_take a slots (all_flags ws), lowest_take (slots - a) (drop a (all_flags ws))) (shifted_limited a slots (lowest_free (drop a (all_flags ws))))

-- ---- one word: the trailing zeros of its complement without the p lowest bits
mask_is : (p : ℕ) → p < 64 → 18446744073709551615 - (1 * 2 ^ p % 18446744073709551616 - 1) ≡ 2 ^ 64 - 2 ^ p
mask_is p h =
    let a : 2 ^ p < 2 ^ 64 = pow-lt h in
    let b : 0 < 2 ^ p = pow_pos p in
    omega arith

pub zero_found : (x p : ℕ) → p < 64 → x < 2 ^ 64
    → count_trailing_zeros 64 (bit_and (18446744073709551615 - x) (18446744073709551615 - (1 * 2 ^ p % 18446744073709551616 - 1))) ≡ otherwise 64 (free_from p (bits 64 x))
zero_found x p h g =
    let y : ℕ = bit_and (2 ^ 64 - 1 - x) (2 ^ 64 - 2 ^ p) in
    let e : lowest_free (map not (bits 64 y)) ≡ free_from p (bits 64 x) =
    ap lowest_free (masked_bits 64 p x (omega arith) g) ∙ lowest_append (replicate p true) (drop p (bits 64 x)) ∙ rw (lowest_taken p, length-replicate p true) in
    rw (mask_is p h, zeros_are 64 y, e)

-- ---- all words: from the bit p of word w on
free_word : (ws : List ℕ) (w p : ℕ) → w < length ws → p ≤ 64
    → free_from (64 * w + p) (all_flags ws) ≡ or_else (shifted (64 * w) (free_from p (bits 64 (get_or ws w 0)))) (free_from (64 * w + 64) (all_flags ws))
free_word ws w p h g =
    let l = drop p (bits 64 (get_or ws w 0)) in
    let m = drop (64 * w + 64) (all_flags ws) in
    let n : length l ≡ 64 - p = rw (length-drop p (bits 64 (get_or ws w 0)), length_bits 64 (get_or ws w 0)) in
    let e : 64 * w + p + (64 - p) ≡ 64 * w + 64 = omega arith in
    rw (
      word_flags ws w p h g,
      lowest_append l m,
      shifted_or (64 * w + p) (lowest_free l) (shifted (length l) (lowest_free m)),
      n,
      shifted_twice (64 * w + p) (64 - p) (lowest_free m),
      e,
      shifted_twice (64 * w) p (lowest_free l),
    )

-- what the search has left: all before is taken
pub record Looked (words : List ℕ) (from w p : ℕ) : Type 0 where
  pub inside : p < 64
  pub same : free_from from (all_flags words) ≡ free_from (64 * w + p) (all_flags words)

pub looked_none : (words : List ℕ) (from : ℕ) → Looked words from (from / 64) (from % 64)
looked_none words from =
    let e : 64 * (from / 64) + from % 64 ≡ from = omega arith in
    record { inside = omega arith; same = rw e }

-- in a word with no free slot from p on, and in one with
none_left : (p x t : ℕ) → t ≡ otherwise 64 (free_from p (bits 64 x)) → p < 64 → 64 ≤ t → free_from p (bits 64 x) ≡ none
unfolding below
none_left p x t e g h = go (free_from p (bits 64 x)) refl (below_shifted p (length l) (lowest_free l) (lowest_below l))
  where
    l : List Bool
    l = drop p (bits 64 x)

    go : (o : Option ℕ) → free_from p (bits 64 x) ≡ o → below (p + length l) o → o ≡ none
    go none q b = refl
    go (some i) q b = absurd (let n : length l ≡ 64 - p = rw (length-drop p (bits 64 x), length_bits 64 x) in let z : t ≡ i = rw (e, q) in omega arith)

one_left : (p x t : ℕ) → t ≡ otherwise 64 (free_from p (bits 64 x)) → t < 64 → free_from p (bits 64 x) ≡ some t
one_left p x t e h = go (free_from p (bits 64 x)) refl
  where
    go : (o : Option ℕ) → free_from p (bits 64 x) ≡ o → o ≡ some t
    go none q = absurd (let z : t ≡ 64 = rw (e, q) in omega arith)
    go (some i) q = let z : t ≡ i = rw (e, q) in rw z

module _ (words : List ℕ) (from w p t : ℕ) (l : length words ≡ 16) (h : w < 16) (k : Looked words from w p) (e : t ≡ otherwise 64 (free_from p (bits 64 (get_or words w 0)))) where
  here : free_from from (all_flags words) ≡ or_else (shifted (64 * w) (free_from p (bits 64 (get_or words w 0)))) (free_from (64 * w + 64) (all_flags words))
  here = k.same ∙ free_word words w p (omega arith) (omega (arith, k.inside))

  pub looked_more : 64 ≤ t → Looked words from (w + 1) 0
  looked_more g =
      let z : 64 * w + 64 ≡ 64 * (w + 1) + 0 = omega arith in
      record { inside = omega arith; same = rw (here, none_left p (get_or words w 0) t e k.inside g, z) }

  module _ (slots : ℕ) (g : t < 64) where
    slot_is : free_from from (flags_in slots words) ≡ limited slots (some (64 * w + t))
    slot_is = rw (free_flags from slots words, here, one_left p (get_or words w 0) t e g)

    pub slot_found : 64 * w + t < slots → Some (64 * w + t) ≡ found (free_from from (flags_in slots words))
    unfolding found
    slot_found q = rw (slot_is, lt-ltb (64 * w + t) slots q)

    pub slot_beyond : slots ≤ 64 * w + t → None ≡ found (free_from from (flags_in slots words))
    unfolding found
    slot_beyond q = rw (slot_is, le-ltb (64 * w + t) slots q)

pub looked_all : (words : List ℕ) (from w p slots : ℕ) → length words ≡ 16 → 16 ≤ w → Looked words from w p → None ≡ found (free_from from (flags_in slots words))
unfolding found
looked_all words from w p slots l h k =
    let e : drop (64 * w + p) (all_flags words) ≡ [] = drop_of_length-le (all_flags words) {i = 64 * w + p} (omega (arith, length_flags words)) in
    rw (free_flags from slots words, k.same, e)

-- ---- above a slot, and going round
module _ (words : List ℕ) (slots slot : ℕ) (f : Found) (e : f ≡ found (free_from (slot + 1) (flags_in slots words))) where
  pub above_found : (i : ℕ) → f ≡ Some i → f ≡ found (first_free slot (flags_in slots words))
  unfolding found first_free
  above_found i p =
      let q : free_from (suc slot) (flags_in slots words) ≡ some i = rw (← add-one slot) (found_some (free_from (slot + 1) (flags_in slots words)) i (sym e ∙ p)) in
      rw (p, q)

  pub above_none : (r : Found) → f ≡ None → r ≡ found (free_from 0 (flags_in slots words)) → r ≡ found (first_free slot (flags_in slots words))
  unfolding first_free
  above_none r p s =
      let q : free_from (suc slot) (flags_in slots words) ≡ none = rw (← add-one slot) (found_none (free_from (slot + 1) (flags_in slots words)) (sym e ∙ p)) in
      rw (q, s, shifted_zero (lowest_free (flags_in slots words)))
