-- The bits of the servers' states, and what a change of the servers does to them.
use Rattle.std.specs.Prelude.{◌≡◌, Bool, ◌||◌, ℕ, zero, suc, ◌+◌, ◌*◌, ◌/◌, ◌%◌, ◌^◌, ◌<◌, eqb}
use Rattle.std.proofs.Math.Path.{refl, ap, ap₂, sym}
use Rattle.std.proofs.Common.{◌∙◌, arith, eqb-true, eq-eqb, ne_eqb, mul_assoc, mod-lt, mod-eq_of_lt, div-one, pow_pos}
use Rattle.std.proofs.Math.Bool.{true, false, ◌&&◌, not}
use Rattle.std.proofs.Math.Decide.{ℕ_discrete}
use Rattle.std.proofs.Math.Nat.{pow-succ', mod-add-div, add-mul-mod_self_left, add-mul-div_left, div-div-eq-div-mul}
use Rattle.base.specs.Test.{not_both, and_both}
use Rattle.base.proofs.Laws.Test.{or_right}
use Rattle.memory.specs.Bit.{bit, put_bit}
use Rattle.memory.proofs.Laws.Bit.{bit_put_same, bit_put_other}
use Rattle.nodes.specs.States.{is_present, is_open, is_closing, with_added, with_closed, with_removed}
use Rattle.nodes.proofs.Laws.States.{present_below}
use Rattle.steps.specs.declared.step.ServerChange.{ServerChange}
use Rattle.steps.specs.declared.step.ServerChange.TheVariants.{Add, Close, Remove}
use Rattle.steps.specs.Servers.{is_add, changed_states}

-- ---- the lowest bits of a word, and those above
module _ (w c : ℕ) where
  whole : w ≡ w % (2 * c) + 2 * (c * (w / (2 * c)))
  whole = sym (ap (λ (x : ℕ). w % (2 * c) + x) (sym (mul_assoc 2 c (w / (2 * c)))) ∙ mod-add-div w (2 * c))

  half_mod : w % (2 * c) % 2 ≡ w % 2
  half_mod = sym (ap (λ (x : ℕ). x % 2) whole ∙ add-mul-mod_self_left (w % (2 * c)) 2 (c * (w / (2 * c))))

  half_div : 0 < c → w % (2 * c) / 2 ≡ w / 2 % c
  half_div h =
      let l : w % (2 * c) < 2 * c = mod-lt w (omega arith) in
      sym (ap (λ (x : ℕ). x / 2 % c) whole ∙ ap (λ (x : ℕ). x % c) (add-mul-div_left (w % (2 * c)) (c * (w / (2 * c))) (omega arith))
      ∙ add-mul-mod_self_left (w % (2 * c) / 2) c (w / (2 * c)) ∙ mod-eq_of_lt (omega (arith, l)))

low : (n w i : ℕ) → i < n → bit (w % 2 ^ n) i ≡ bit w i
unfolding bit
low zero w i l = absurd (omega arith)
low (suc n) w zero l = ap (λ (x : ℕ). eqb x 1) (ap (λ (p : ℕ). w % p % 2) (pow-succ' 2 n) ∙ half_mod w (2 ^ n))
low (suc n) w (suc i) l =
    ap (λ (x : ℕ). bit x i) (ap (λ (p : ℕ). w % p / 2) (pow-succ' 2 n) ∙ half_div w (2 ^ n) (pow_pos n)) ∙ low n (w / 2) i (omega arith)

high : (n w i : ℕ) → bit (w / 2 ^ n) i ≡ bit w (n + i)
unfolding bit
high zero w i = let e : i ≡ 0 + i = omega arith in ap₂ bit (div-one w) e
high (suc n) w i =
    let e : suc n + i ≡ suc (n + i) = omega arith in
    ap (λ (x : ℕ). bit x i) (ap (λ (p : ℕ). w / p) (pow-succ' 2 n) ∙ sym (div-div-eq-div-mul w 2 (2 ^ n))) ∙ high n (w / 2) i ∙ ap (bit w) (sym e)

-- ---- a server is there, and open
module _ (st : ℕ) where
  pub present_bit : (t : ℕ) → t < 8 → is_present st t ≡ bit st t
  unfolding is_present
  present_bit t l = low 8 st t l

  pub open_bit : (t : ℕ) → t < 8 → is_open st t ≡ (bit st t && bit st (8 + t))
  unfolding is_open
  open_bit t l = ap₂ ◌&&◌ (present_bit t l) (high 8 st t)

  pub opened : (t : ℕ) → t < 8 → bit st t ≡ true → bit st (8 + t) ≡ true → is_open st t ≡ true
  opened t l a b = open_bit t l ∙ rw (a, b)

  pub open_bits : (t : ℕ) → is_open st t ≡ true → (t < 8) × (bit st t ≡ true) × (bit st (8 + t) ≡ true)
  unfolding is_open
  open_bits t h =
      let l = present_below st t (and_both (is_present st t) (bit (st / 256) t) h).0 in
      let b = and_both (bit st t) (bit st (8 + t)) (sym (open_bit t l) ∙ h) in
      (l, b.0, b.1)

  pub closing_bits : (t : ℕ) → is_closing st t ≡ true → (is_present st t ≡ true) × (bit st (8 + t) ≡ false)
  unfolding is_closing
  closing_bits t h =
      let b = and_both (is_present st t) (not (bit (st / 256) t)) h in
      (b.0, sym (high 8 st t) ∙ off (bit (st / 256) t) b.1)
    where
      off : (b : Bool) → not b ≡ true → b ≡ false
      off true e = sym e
      off false e = refl

-- ---- a change at the server s
module _ (st s : ℕ) (near : s < 8) where
  -- who is there afterwards: p says if a server was there before, e if it is s
  abbrev pub after_test : ServerChange → Bool → Bool → Bool
  after_test Add p e = e || p
  after_test Close p e = p
  after_test Remove p e = not e && p

  pub after : (x : ServerChange) (t : ℕ) → t < 8 → is_present (changed_states x st s) t ≡ after_test x (is_present st t) (eqb t s)
  unfolding changed_states with_added with_closed with_removed
  after x t l = present_bit (changed_states x st s) t l ∙ go x (ℕ_discrete t s) ∙ ap (λ (p : Bool). after_test x p (eqb t s)) (sym (present_bit st t l))
    where
      apart : ¬ (t ≡ 8 + s)
      apart e = absurd (omega (arith, e))

      go : (x : ServerChange) → Dec (t ≡ s) → bit (changed_states x st s) t ≡ after_test x (bit st t) (eqb t s)
      go Add (yes e) = bit_put_other true (put_bit true st s) (8 + s) t apart ∙ ap (bit (put_bit true st s)) e ∙ bit_put_same true st s ∙ sym (rw (eq-eqb t s e) refl)
      go Add (no n) = bit_put_other true (put_bit true st s) (8 + s) t apart ∙ bit_put_other true st s t n ∙ sym (rw (ne_eqb t s n) refl)
      go Close d = bit_put_other false st (8 + s) t apart
      go Remove (yes e) = ap (bit (put_bit false st s)) e ∙ bit_put_same false st s ∙ sym (rw (eq-eqb t s e) refl)
      go Remove (no n) = bit_put_other false st s t n ∙ sym (rw (ne_eqb t s n) refl)

  -- what is known of s before
  abbrev pub Before : ServerChange → Type 0
  Before Add = is_present st s ≡ false
  Before Close = is_present st s ≡ true
  Before Remove = is_present st s ≡ true

  at_s : (b : Bool) → is_present st s ≡ b → (t : ℕ) → eqb t s ≡ true → is_present st t ≡ b
  at_s b h t e = ap (is_present st) (eqb-true t s e) ∙ h

  -- the servers there before or afterwards
  pub union : (x : ServerChange) → Before x → (t : ℕ) → t < 8 → (is_present st t || is_present (changed_states x st s) t) ≡ (is_present st t || eqb t s)
  union x h t l = ap (λ (b : Bool). is_present st t || b) (after x t l) ∙ go x h (is_present st t) refl (eqb t s) refl
    where
      go : (x : ServerChange) → Before x → (p : Bool) → is_present st t ≡ p → (e : Bool) → eqb t s ≡ e → (p || after_test x p e) ≡ (p || e)
      go x h true i e j = refl
      go Add h false i true j = refl
      go Add h false i false j = refl
      go Close h false i false j = refl
      go Close h false i true j = absurd (not_both (at_s true h t j) i)
      go Remove h false i false j = refl
      go Remove h false i true j = absurd (not_both (at_s true h t j) i)

  -- the servers added
  pub joined : (x : ServerChange) → Before x → (t : ℕ) → t < 8 → (not (is_present st t) && is_present (changed_states x st s) t) ≡ (is_add x && eqb t s)
  joined x h t l = ap (λ (b : Bool). not (is_present st t) && b) (after x t l) ∙ go x h (is_present st t) refl (eqb t s) refl
    where
      go : (x : ServerChange) → Before x → (p : Bool) → is_present st t ≡ p → (e : Bool) → eqb t s ≡ e → (not p && after_test x p e) ≡ (is_add x && e)
      go Add h true i true j = absurd (not_both i (at_s false h t j))
      go Add h true i false j = refl
      go Add h false i true j = refl
      go Add h false i false j = refl
      go Close h true i e j = refl
      go Close h false i e j = refl
      go Remove h true i e j = refl
      go Remove h false i true j = refl
      go Remove h false i false j = refl

  -- who was there is there still, but for a removed one
  pub stays : (x : ServerChange) (t : ℕ) → t < 8 → (x ≡ Remove → ¬ (t ≡ s)) → is_present st t ≡ true → is_present (changed_states x st s) t ≡ true
  stays x t l n p = after x t l ∙ ap (λ (b : Bool). after_test x b (eqb t s)) p ∙ go x n
    where
      go : (x : ServerChange) → (x ≡ Remove → ¬ (t ≡ s)) → after_test x true (eqb t s) ≡ true
      go Add n = or_right (eqb t s) true refl
      go Close n = refl
      go Remove n = rw (ne_eqb t s (n refl)) refl

  -- ---- some server is open afterwards
  pub add_open : is_open (changed_states Add st s) s ≡ true
  unfolding changed_states with_added
  add_open =
      opened (put_bit true (put_bit true st s) (8 + s)) s near
      (bit_put_other true (put_bit true st s) (8 + s) s (λ e. absurd (omega (arith, e))) ∙ bit_put_same true st s) (bit_put_same true (put_bit true st s) (8 + s))

  -- another one that was open
  pub still_open : (x : ServerChange) → ¬ (x ≡ Add) → (t : ℕ) → is_open st t ≡ true → ¬ (t ≡ s) → is_open (changed_states x st s) t ≡ true
  unfolding changed_states with_closed with_removed
  still_open Add n t h d = absurd (n refl)
  still_open Close n t h d =
      let b = open_bits st t h in
      opened (put_bit false st (8 + s)) t b.0 (bit_put_other false st (8 + s) t (λ e. absurd (omega (arith, e, b.0))) ∙ b.1)
      (bit_put_other false st (8 + s) (8 + t) (λ e. d (omega (arith, e))) ∙ b.2)
  still_open Remove n t h d =
      let b = open_bits st t h in
      opened (put_bit false st s) t b.0 (bit_put_other false st s t d ∙ b.1) (bit_put_other false st s (8 + t) (λ e. absurd (omega (arith, e))) ∙ b.2)
