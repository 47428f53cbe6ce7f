-- The ways out of the functions that print.
use Rattle.std.specs.Prelude.{◌≡◌, true, false, ◌⊎◌, List, [], ◌∷◌, ◌++◌, ℕ, zero, suc, ◌+◌, ◌-◌, ◌*◌, ◌/◌, ◌%◌, ◌^◌, ◌≤◌, ◌<◌, leb, length, drop, set}
use Rattle.std.proofs.Common.{sym, ◌∙◌, inl, inr, append_assoc, mod-lt, mod-eq_of_lt, arith, lt-ltb, le-ltb, leb-true, leb-false, length-append, drop-drop}
use Rattle.std.proofs.Math.Nat.{pow-le-pow_right, pow-succ', one-le-pow}
use borrow.Rule.Slice.PartMut.{put_mid}
use Rattle.std.proofs.Math.ListN.{take}
use Rattle.std.proofs.lemmas.List.Edits.{sets-eq}
use Rattle.base.proofs.Laws.Test.{bool_cases}
use Rattle.io.specs.Digits.{last_digits, IsDigitCount}
use Rattle.memory.proofs.Laws.Run.{sets_append}
use Rattle.text.specs.Print.{digits_within, decimal, field, step_line, store_line, Printed}

-- the bytes given, put in their place from index at on
pub place_made : (out bytes t : List ℕ) (at : ℕ) → at + length bytes ≤ length out → t ≡ bytes
    → Printed out at bytes (put_mid at (at + length bytes - at) out t) (at + length bytes)
place_made out bytes t at h c =
    record {
      bytes =
          let e : at + length bytes - at ≡ length bytes = omega arith in
          rw (
            c,
            e,
            sets-eq bytes out at h,
            drop-drop (length bytes) at out,
          )
          (sym (append_assoc (take at out) bytes (drop (at + length bytes) out)));
      end = λ i. at + length bytes;
    }

-- a number below 2^64 has at most 20 digits
pub fewest_short : (n r : ℕ) → n < 2 ^ 64 → IsDigitCount 10 1 n r → r ≤ 20
fewest_short n r h f = go (bool_cases (leb r 20))
  where
    go : (leb r 20 ≡ true) ⊎ (leb r 20 ≡ false) → r ≤ 20
    go (inl t) = leb-true r 20 t
    go (inr t) =
        let l : 20 < r = leb-false r 20 t in
        let g : 10 ^ (r - 1) ≤ n = f.2 (omega arith) in
        let p : 10 ^ 20 ≤ 10 ^ (r - 1) = pow-le-pow_right {n = 10} (omega arith) {i = 20} {j = r - 1} (omega arith) in
        absurd (omega arith)

-- the fewest digits that hold a number are its decimal digits
pub fewest_decimal : (r k n : ℕ) → r ≤ k → IsDigitCount 10 1 n r → last_digits 10 r n ≡ digits_within k n
unfolding digits_within
fewest_decimal zero k n h f = absurd (omega arith)
fewest_decimal (suc r) zero n h f = absurd (omega arith)
fewest_decimal (suc zero) (suc k) n h f =
    let l : n < 10 = f.1 in
    rw (mod-eq_of_lt l, lt-ltb n 10 l)
fewest_decimal (suc (suc r)) (suc k) n h f =
    let a : suc (suc r) - 1 ≡ suc r = omega arith in
    let b : suc r - 1 ≡ r = omega arith in
    let g : 10 ^ suc r ≤ n = rw a at (f.2 (omega arith)) in
    let u : n < 10 ^ suc (suc r) = f.1 in
    let p : 10 ^ suc r ≡ 10 * 10 ^ r = pow-succ' 10 r in
    let q : 10 ^ suc (suc r) ≡ 10 * 10 ^ suc r = pow-succ' 10 (suc r) in
    let o : 1 ≤ 10 ^ r = one-le-pow r 10 (omega arith) in
    let m : n % 10 < 10 = mod-lt n (omega arith) in
    rw (le-ltb n 10 (omega arith), lt-ltb (n % 10) 10 m, fewest_decimal (suc r) k (n / 10) (omega arith) (omega arith, omega arith, λ e. rw b (omega arith)))

-- a number, and the byte that ends it
pub field_made : (out text out' : List ℕ) (at n r last end : ℕ) → n < 2 ^ 64 → IsDigitCount 10 1 n r → take r text ≡ last_digits 10 r n
    → Printed out at (take r text) out' last → Printed out at (field n end) (set out' last end) (last + 1)
unfolding field decimal
field_made out text out' at n r last end s f d p =
    let e : take r text ≡ digits_within 20 n = d ∙ fewest_decimal r 20 n (fewest_short n r s f) f in
    record {
      bytes = rw (sets_append, ← e, p.bytes, p.end);
      end = rw (length-append, ← e, p.end) (omega arith);
    }

-- one thing after another
pub then : (xs ys out out1 out2 : List ℕ) (at at1 at2 : ℕ) → Printed out at xs out1 at1 → Printed out1 at1 ys out2 at2 → Printed out at (xs ++ ys) out2 at2
then xs ys out out1 out2 at at1 at2 p q =
    record {
      bytes = rw (sets_append, q.bytes, p.bytes, p.end);
      end = rw (length-append, q.end, p.end) (omega arith);
    }

module _ (out out1 out2 out3 out4 : List ℕ) (at at1 at2 at3 at4 : ℕ) where
  pub step_made : (step outcome a b : ℕ) → Printed out at (field step 32) out1 at1 → Printed out1 at1 (field outcome 32) out2 at2
      → Printed out2 at2 (field a 32) out3 at3 → Printed out3 at3 (field b 10) out4 at4 → Printed out at (step_line step outcome a b) out4 at4
  unfolding step_line
  step_made step outcome a b p q u v = then _ _ _ _ _ _ _ _ (then _ _ _ _ _ _ _ _ (then _ _ _ _ _ _ _ _ p q) u) v

  pub store_made : (servers slots clients : ℕ) → Printed out at (115 ∷ 116 ∷ 111 ∷ 114 ∷ 101 ∷ 32 ∷ []) out1 at1 → Printed out1 at1 (field servers 32) out2 at2
      → Printed out2 at2 (field slots 32) out3 at3 → Printed out3 at3 (field clients 10) out4 at4 → Printed out at (store_line servers slots clients) out4 at4
  unfolding store_line
  store_made servers slots clients p q u v = then _ _ _ _ _ _ _ _ (then _ _ _ _ _ _ _ _ (then _ _ _ _ _ _ _ _ p q) u) v
