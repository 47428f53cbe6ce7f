-- Sets of servers as words, and the participants: those that the client computes are the machine's.
use Rattle.std.specs.Prelude.{◌≡◌, Bool, false, cond, ◌&&◌, not, ◌⊎◌, ltb}
use Rattle.std.proofs.Math.Path.{refl, sym}
use Rattle.std.proofs.Common.{ap, ◌∙◌, subst, inl, inr, arith, pow_pos}
use Rattle.std.proofs.Math.Bool.{true}
use mathlib.Core.List.{List, [], ◌∷◌, map}
use Prim.Native.Nat.{ℕ, zero, suc, ◌-◌, ◌^◌, ◌≤◌, ◌<◌, Fin}
use Rattle.std.proofs.Math.Decide.{dec_lt, ℕ_discrete, Fin-discrete}
use borrow.Author.Tests.{ltb-true, eqb-true, eq-eqb, ne_eqb}
use Rattle.std.proofs.Math.Dec.{eqb}
use Rattle.std.proofs.Math.Pow.{pow-lt}
use Rattle.base.proofs.Laws.Test.{bool_cases, cond_true, cond_false, of_yes, of_no}
use Rattle.base.specs.Test.{not_both, and_both, yes?}
use Rattle.memory.specs.Bit.{bit, put_bit}
use Rattle.memory.proofs.Laws.Bit.{bit_put_same, bit_put_other, put_lt, no_bits}
use Rattle.nodes.specs.Name.{server_of, slot_of, name_in_store}
use Rattle.operations.specs.Object.{Obj, meta, node, flag, Val}
use Rattle.operations.proofs.Laws.Object.{inner}
use Rattle.protocol.specs.Lists.{Among}
use Rattle.client.specs.Record.{number, in_store}
use Rattle.client.specs.Items.{any_below}
use Rattle.client.specs.Participants.{mask, lowest_of, at_home}
use Rattle.demand.proofs.Laws.Store.{server, home, keeps, fins, fins_all, zeroth}
use Rattle.demand.proofs.Laws.Numbers.{by_object, by_number_of}
use Rattle.demand.proofs.Laws.Held.{any_at, any_one}
use Rattle.demand.proofs.Laws.Shows.{T, InStore}
use Rattle.protocol.specs.Moves as Mv

-- ---- words as sets
pub mask_bit : (n : ℕ) (f : ℕ → Bool) (i : ℕ) → i < n → bit (mask n f) i ≡ f i
unfolding mask
mask_bit zero f i l = absurd (omega arith)
mask_bit (suc n) f i l = go (ℕ_discrete i n) (λ q. mask_bit n f i q)
  where
    go : Dec (i ≡ n) → (i < n → bit (mask n f) i ≡ f i) → bit (put_bit (f n) (mask n f) n) i ≡ f i
    go (yes e) rec = subst (λ (x : ℕ). bit (put_bit (f n) (mask n f) n) x ≡ f x) (sym e) (bit_put_same (f n) (mask n f) n)
    go (no d) rec = bit_put_other (f n) (mask n f) n i d ∙ rec (omega arith)

pub mask_lt : (n : ℕ) (f : ℕ → Bool) → mask n f < 2 ^ n
unfolding mask
mask_lt zero f = omega arith
mask_lt (suc n) f =
    let p : 2 ^ n < 2 ^ suc n = pow-lt {i = n} {j = suc n} (omega arith) in
    put_lt (f n) (suc n) (mask n f) n (omega arith) (omega (arith, mask_lt n f))

-- one more server in a set of n
pub one_more : (n s : ℕ) → s < n → (w : ℕ) → w ≤ 2 ^ n - 1 → put_bit true w s ≤ 2 ^ n - 1
one_more n s l w h = omega (arith, pow_pos n, put_lt true n w s l (omega (arith, pow_pos n)))

-- a set that is not empty has a member
pub member : (n w : ℕ) → w < 2 ^ n → ¬ (w ≡ 0) → (i : ℕ) × (i < n) × (bit w i ≡ true)
member n w b h = go (bool_cases (any_below n (bit w)))
  where
    go : (any_below n (bit w) ≡ true) ⊎ (any_below n (bit w) ≡ false) → (i : ℕ) × (i < n) × (bit w i ≡ true)
    go (inl e) = any_one n (bit w) e
    go (inr e) = absurd (h (no_bits n w b (λ i l. none i l (bool_cases (bit w i)))))
      where
        none : (i : ℕ) → i < n → (bit w i ≡ true) ⊎ (bit w i ≡ false) → bit w i ≡ false
        none i l (inl q) = absurd (not_both (any_at n (bit w) i l q) e)
        none i l (inr q) = q

-- the lowest member
low_none : (n w : ℕ) → ((i : ℕ) → i < n → bit w i ≡ false) → lowest_of n w ≡ n
unfolding lowest_of
low_none zero w h = refl
low_none (suc n) w h =
    let e = low_none n w (λ i l. h i (omega arith)) in
    let q = h n (omega arith) in
    rw (e, q)

pub low_is : (n w i : ℕ) → i < n → bit w i ≡ true → ((t : ℕ) → t < i → bit w t ≡ false) → lowest_of n w ≡ i
unfolding lowest_of
low_is zero w i l b h = absurd (omega arith)
low_is (suc n) w i l b h = go (ℕ_discrete i n) (λ q. low_is n w i q b h)
  where
    here : lowest_of n w ≡ i → cond (bit w (lowest_of n w)) (lowest_of n w) (cond (bit w n) n (suc n)) ≡ i
    here e = rw (e, b)

    go : Dec (i ≡ n) → (i < n → lowest_of n w ≡ i) → cond (bit w (lowest_of n w)) (lowest_of n w) (cond (bit w n) n (suc n)) ≡ i
    go (yes e) rec = here (low_none n w (λ t q. h t (omega (arith, e))) ∙ sym e)
    go (no d) rec = here (rec (omega arith))

-- ---- the servers, lowest first
unfoldable pub Rising : {n : ℕ} → List (Fin n) → Type 0
Rising [] = Unit {0}
Rising (a ∷ l) = ((b : Fin _) → Among b l → a.0 < b.0) × Rising l

among_succ : {n : ℕ} (l : List (Fin n)) (b : Fin (suc n)) → Among b (map native.Mathlib.Fin.succ l) → (a : Fin n) × Among a l × (b ≡ native.Mathlib.Fin.succ a)
unfolding Among
among_succ [] b h = absurd h
among_succ (x ∷ l) b (inl e) = (x, inl refl, e)
among_succ (x ∷ l) b (inr h) = let r = among_succ l b h in (r.0, inr r.1, r.2)

succ_rising : {n : ℕ} (l : List (Fin n)) → Rising l → Rising (map native.Mathlib.Fin.succ l)
unfolding Rising
succ_rising [] h = tt
succ_rising (x ∷ l) h =
    (λ b i. let r = among_succ l b i in subst (λ (q : ℕ). suc x.0 < q) (sym (ap (λ (z : Fin _). z.0) r.2)) (omega (arith, h.0 r.0 r.1)), succ_rising l h.1)

pub fins_rising : (n : ℕ) → Rising (fins n)
unfolding Rising fins
fins_rising zero = tt
fins_rising (suc n) =
    (λ b i. let r = among_succ (fins n) b i in subst (λ (q : ℕ). 0 < q) (sym (ap (λ (z : Fin _). z.0) r.2)) (omega arith), succ_rising (fins n) (fins_rising n))

module _ (k j slots : ℕ) where
  pub first_least : (p : Fin 8 → Bool) (l : List (Fin 8)) → Rising l → (s : Fin 8) → Among s l → p s ≡ true
      → (p (Mv.first_of (T k j slots) p l) ≡ true) × ((Mv.first_of (T k j slots) p l).0 ≤ s.0)
  unfolding Rising Among Mv.first_of
  first_least p [] r s a h = absurd a
  first_least p (x ∷ l) r s a h = go (bool_cases (p x)) a (λ q. first_least p l r.1 s q h)
    where
      First : Fin 8 → Type 0
      First f = (p f ≡ true) × (f.0 ≤ s.0)

      go : (p x ≡ true) ⊎ (p x ≡ false) → (s ≡ x) ⊎ Among s l → (Among s l → First (Mv.first_of (T k j slots) p l))
          → First (cond (p x) x (Mv.first_of (T k j slots) p l))
      go (inl e) (inl q) rec = subst First (sym (cond_true x (Mv.first_of (T k j slots) p l) e)) (e, subst (λ (f : Fin 8). x.0 ≤ f.0) (sym q) (omega arith))
      go (inl e) (inr q) rec = subst First (sym (cond_true x (Mv.first_of (T k j slots) p l) e)) (e, omega (arith, r.0 s q))
      go (inr e) (inl q) rec = absurd (not_both (subst (λ (f : Fin 8). p f ≡ true) q h) e)
      go (inr e) (inr q) rec = subst First (sym (cond_false x (Mv.first_of (T k j slots) p l) e)) (rec q)

  -- the machine's lowest participant is the set's lowest member
  pub lowest_same : (p : Fin 8 → Bool) (w : ℕ) → ((s : Fin 8) → p s ≡ bit w s.0) → (i : ℕ) → i < 8 → bit w i ≡ true
      → (Mv.first_of (T k j slots) p (fins 8)).0 ≡ lowest_of 8 w
  lowest_same p w e i l b =
      let f = Mv.first_of (T k j slots) p (fins 8) in
      let at = first_least p (fins 8) (fins_rising 8) (i, l) (fins_all 8 (i, l)) (e (i, l) ∙ b) in
      sym (low_is 8 w f.0 f.1 (sym (e f) ∙ at.0) (λ t q. lower f t q (bool_cases (bit w t))))
    where
      lower : (f : Fin 8) (t : ℕ) → t < (Mv.first_of (T k j slots) p (fins 8)).0 → (bit w t ≡ true) ⊎ (bit w t ≡ false) → bit w t ≡ false
      lower f t q (inr z) = z
      lower f t q (inl z) =
          let h : t < 8 = omega (arith, (Mv.first_of (T k j slots) p (fins 8)).1) in
          let r = first_least p (fins 8) (fins_rising 8) (t, h) (fins_all 8 (t, h)) (e (t, h) ∙ z) in
          absurd (omega (arith, r.1))

  -- ---- homes
  pub server_is : (q : ℕ) → q < 8 → (server k j slots q).0 ≡ q
  unfolding server
  server_is q h = go (dec_lt q 8) h
    where
      number_of : Fin 8 → ℕ
      number_of f = f.0

      go : (d : Dec (q < 8)) → q < 8 → number_of (elim d [ yes h ↦ (q, h) | no h ↦ zeroth 7 ]) ≡ q
      go (yes h) l = refl
      go (no n) l = absurd (n l)

  same_server : (s : Fin 8) (q : ℕ) → q < 8 → yes? (Fin-discrete 8 s (server k j slots q)) ≡ eqb q s.0
  same_server s q h = go (ℕ_discrete q s.0)
    where
      go : Dec (q ≡ s.0) → yes? (Fin-discrete 8 s (server k j slots q)) ≡ eqb q s.0
      go (yes e) = of_yes (Fin-discrete 8 s (server k j slots q)) (native.Mathlib.Fin.val_path (sym (server_is q h ∙ e))) ∙ sym (eq-eqb q s.0 e)
      go (no n) = of_no (Fin-discrete 8 s (server k j slots q)) (λ e. n (sym (ap (λ (z : Fin 8). z.0) e ∙ server_is q h))) ∙ sym (ne_eqb q s.0 n)

  pub name_server : (n : ℕ) → in_store slots n ≡ true → server_of n < 8
  unfolding name_in_store
  name_server n h = ltb-true (server_of n) 8 (and_both (ltb (server_of n) 8) (ltb (slot_of n) slots) h).0

  pub kept_at : (s : Fin 8) (n : ℕ) → in_store slots n ≡ true → yes? (Fin-discrete 8 s (server k j slots (server_of n))) ≡ true → server_of n ≡ s.0
  kept_at s n i h = eqb-true (server_of n) s.0 (sym (same_server s (server_of n) (name_server n i)) ∙ h)

  -- a server keeps what is at home there
  pub kept_home : slots ≤ 1024 → (s : Fin 8) (o : Obj) → InStore k j slots o → keeps k j slots s o ≡ at_home s.0 (number o)
  unfolding at_home
  kept_home al s o h =
      same o h ∙ sym (by_number_of slots al o h true (λ n. eqb (server_of n) s.0) (λ n. eqb (server_of n) s.0))
    where
      same : (o : Obj) → InStore k j slots o → keeps k j slots s o ≡ by_object o true (λ n. eqb (server_of n) s.0) (λ n. eqb (server_of n) s.0)
      same meta h = refl
      same (node n) h = same_server s (server_of n) (name_server n h)
      same (flag n) h = same_server s (server_of n) (name_server n h)

  -- of an outer object the home is the server that keeps it
  pub outer_home : (s : Fin 8) (o : Obj) (v : Val) → (not (inner o v) && yes? (Fin-discrete 8 s (home k j slots o))) ≡ (not (inner o v) && keeps k j slots s o)
  outer_home s meta v = refl
  outer_home s (node n) v = refl
  outer_home s (flag n) v = refl
