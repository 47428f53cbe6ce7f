-- The ways out of the functions that read: what each returns is what the definition says, by the tests on the way.
use Rattle.std.specs.Prelude.{◌≡◌, true, false, ◌&&◌, not, ℕ, ◌+◌, ◌*◌, ◌-◌, ◌/◌, ◌^◌, ◌≤◌, ◌<◌, get_or, set, is_some, Some, None}
use Rattle.std.proofs.Math.Path.{sym}
use Rattle.std.proofs.Common.{◌∙◌, arith}
use borrow.Author.Tests.{lt-ltb, le-ltb, le-leb, lt-leb, ne_eqb, not-true, not-false}
use Rattle.std.proofs.Math.Dec.{ltb}
use Rattle.base.proofs.Laws.Test.{cond_false}
use Rattle.text.specs.declared.read.Line.TheVariants.{Sizes, Step}
use Rattle.text.specs.declared.read.Reader.{Reader}
use Rattle.text.specs.Reader.{spoiled, so_far, with_digit, ended, next, finish}

module _ (r : Reader) where
  pub finish_spoiled : not r.good ≡ true → None ≡ finish r
  unfolding finish
  finish_spoiled g = rw (not-true r.good g)

  pub finish_unbegun : not r.good ≡ false → r.value ≡ None → None ≡ finish r
  unfolding finish
  finish_unbegun g b = rw (not-false r.good g, b)

  module _ (g : not r.good ≡ false) (v : ℕ) (b : r.value ≡ Some v) where
    pub finish_sizes : r.count ≡ 2 → Some (Sizes (get_or r.numbers 0 0) (get_or r.numbers 1 0) v) ≡ finish r
    unfolding finish
    finish_sizes n = rw (not-false r.good g, b, n)

    pub finish_step : r.count ≡ 5
        → Some (Step (get_or r.numbers 0 0) (get_or r.numbers 1 0) (get_or r.numbers 2 0) (get_or r.numbers 3 0) (get_or r.numbers 4 0) v) ≡ finish r
    unfolding finish
    finish_step n = rw (not-false r.good g, b, n)

    pub finish_short : (r.count ≡ 2 → ⊥) → (r.count ≡ 5 → ⊥) → None ≡ finish r
    unfolding finish
    finish_short n m = rw (not-false r.good g, b, ne_eqb r.count 2 n, ne_eqb r.count 5 m)

  pub digit_spoils : (d s : ℕ) (x : Reader) → s ≡ so_far r → d < 10 → (18446744073709551615 - d) / 10 < s → x ≡ spoiled r → x ≡ with_digit r d
  unfolding with_digit
  digit_spoils d s x q l h e = rw (← q, le-ltb (10 * s + d) (2 ^ 64) (omega arith)) e

  pub digit_grows : (d s : ℕ) → s ≡ so_far r → d < 10 → s ≤ (18446744073709551615 - d) / 10
      → ◌≡◌ {A = Reader} (record { numbers = r.numbers; count = r.count; value = Some (10 * s + d); good = r.good }) (with_digit r d)
  unfolding with_digit
  digit_grows d s q l h = rw (← q, lt-ltb (10 * s + d) (2 ^ 64) (omega arith))

  pub space_early : (x : Reader) → r.value ≡ None → x ≡ spoiled r → x ≡ ended r
  unfolding ended
  space_early x b e = e ∙ sym (cond_false {b = is_some r.value && ltb r.count 5} _ _ (rw b))

  module _ (v : ℕ) (b : r.value ≡ Some v) where
    pub space_late : (x : Reader) → 4 < r.count → x ≡ spoiled r → x ≡ ended r
    unfolding ended
    space_late x n e = e ∙ sym (cond_false {b = is_some r.value && ltb r.count 5} _ _ (rw (b, le-ltb r.count 5 (omega arith))))

    pub space_ends : r.count ≤ 4
        → ◌≡◌ {A = Reader} (record { numbers = set r.numbers r.count v; count = r.count + 1; value = None; good = r.good }) (ended r)
    unfolding ended
    space_ends n = rw (b, lt-ltb r.count 5 (omega arith))

  pub next_space : (b : ℕ) (x : Reader) → b ≡ 32 → x ≡ ended r → x ≡ next r b
  unfolding next
  next_space b x h e = rw h e

  pub next_below : (b : ℕ) (x : Reader) → (b ≡ 32 → ⊥) → b < 48 → x ≡ spoiled r → x ≡ next r b
  unfolding next
  next_below b x h l e = rw (ne_eqb b 32 h, lt-leb 48 b l) e

  pub next_above : (b : ℕ) (x : Reader) → (b ≡ 32 → ⊥) → 48 ≤ b → 57 < b → x ≡ spoiled r → x ≡ next r b
  unfolding next
  next_above b x h l m e = rw (ne_eqb b 32 h, le-leb 48 b l, lt-leb b 57 m) e

  pub next_digit : (b : ℕ) (x : Reader) → (b ≡ 32 → ⊥) → 48 ≤ b → b ≤ 57 → x ≡ with_digit r (b - 48) → x ≡ next r b
  unfolding next
  next_digit b x h l m e = rw (ne_eqb b 32 h, le-leb 48 b l, le-leb b 57 m) e
