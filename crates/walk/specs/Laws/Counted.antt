-- Own frees and takes counted, write by write.
use Rattle.std.specs.Prelude.{◌≡◌, cond, eqb, ltb, take, get_or, set}
use Rattle.std.proofs.Math.Path.{refl, sym}
use Rattle.std.proofs.Common.{◌∙◌, length-set, get_or-set_same, get_or-set_other, ext_get_or, take_all}
use Rattle.std.proofs.Math.Bool.{Bool, true, false}
use mathlib.Core.List.{List, [], ◌∷◌}
use Rattle.std.proofs.Math.Option.{Option, none, some}
use Prim.Native.Nat.{ℕ, zero, suc, ◌+◌, ◌-◌, ◌*◌, ◌≤◌, ◌<◌}
use native.Mathlib.Omega.{arith}
use Rattle.std.proofs.Math.Decide.{ℕ_discrete}
use Rattle.std.proofs.Math.ListN.{length, length-take}
use borrow.Author.Tests.{eq-eqb, ne_eqb, eqb-true, eqb-false, ltb-true, ltb-false, lt-ltb, le-ltb}
use Rattle.base.specs.Test.{yes?, ifd}
use Rattle.nodes.specs.declared.node.Node.{Node}
use Rattle.nodes.specs.Found.{Found}
use Rattle.std.specs.Prelude.{Some, None}
use Rattle.nodes.specs.Name.{name, server_of, slot_of, name_in_store}
use Rattle.nodes.specs.Flags.{with_flag}
use Rattle.nodes.proofs.Laws.Bits.{length_flags, flags_with}
use Rattle.operations.specs.Object.{meta, node, flag, Val, is_taken, Writes}
use Rattle.operations.specs.Slot.{counted}
use Rattle.client.specs.Record.{first_slot, in_store}
use Rattle.client.specs.Sets.{or_found, first_of}
use Rattle.client.specs.Lent.{OwnFits, own_count, own_number, own_record, own_find}
use Rattle.walk.specs.Ask.{write_of, own_value, HoldsWrites}
use Rattle.walk.specs.Counted.{counts_one, counts}
use Rattle.nodes.specs.Flags as N

-- ---- the words stay sixteen
length_one : (x : List ℕ) (s i : ℕ) (ws : List ℕ) → length (counts_one x s i ws) ≡ length ws
unfolding counts_one with_flag
length_one x s i ws = go (ltb (own_number x i) 8193) (eqb (server_of (own_number x i - 8193)) s) refl refl
  where
    go : (a b : Bool) → ltb (own_number x i) 8193 ≡ a → eqb (server_of (own_number x i - 8193)) s ≡ b → length (counts_one x s i ws) ≡ length ws
    go true b p q = rw (counts_one, p)
    go false true p q = rw (counts_one, p, q) (simp length-set)
    go false false p q = rw (counts_one, p, q)

pub length_counts : (x : List ℕ) (s n : ℕ) (ws : List ℕ) → length (counts x s n ws) ≡ length ws
unfolding counts
length_counts x s zero ws = refl
length_counts x s (suc n) ws = length_counts x s n (counts_one x s n ws) ∙ length_one x s n ws

length_of : (slots : ℕ) (ws vs : List ℕ) → length ws ≡ length vs → length (N.flags_in slots ws) ≡ length (N.flags_in slots vs)
unfolding N.flags_in
length_of slots ws vs e =
    let h : length (N.all_flags ws) ≡ length (N.all_flags vs) = rw (length_flags ws, length_flags vs, e) in
    simp length-take (rw h)

-- ---- what stands at a slot
-- an own write of its flag, else what was there
abbrev own_or : List ℕ → Found → Bool → Bool
own_or x (Some j) b = eqb (first_slot (own_record x j)) 1
own_or x None b = b

module _ (x : List ℕ) (s slots i : ℕ) (small : i < 1024) where
  at_one : (n : ℕ) (ws : List ℕ) → length ws ≡ 16 → i < length (N.flags_in slots ws)
      → get_or (N.flags_in slots (counts_one x s n ws)) i false ≡ own_or x (cond (eqb (own_number x n) (8193 + name s i)) (Some n) None) (get_or (N.flags_in slots ws) i false)
  unfolding counts_one
  at_one n ws l h = go (ltb k 8193) (eqb (server_of (k - 8193)) s) refl refl (ℕ_discrete i (slot_of (k - 8193)))
    where
      k : ℕ
      k = own_number x n

      b : Bool
      b = eqb (first_slot (own_record x n)) 1

      goal : Type 0
      goal = get_or (N.flags_in slots (counts_one x s n ws)) i false ≡ own_or x (cond (eqb k (8193 + name s i)) (Some n) None) (get_or (N.flags_in slots ws) i false)

      with_b : N.flags_in slots (with_flag ws (slot_of (k - 8193)) b) ≡ set (N.flags_in slots ws) (slot_of (k - 8193)) b
      with_b = flags_with slots ws (slot_of (k - 8193)) b (omega arith)

      go : (a c : Bool) → ltb k 8193 ≡ a → eqb (server_of (k - 8193)) s ≡ c → Dec (i ≡ slot_of (k - 8193)) → goal
      go true c p q d =
          let g : k < 8193 = ltb-true k 8193 p in
          let e : k ≡ 8193 + name s i → ⊥ = λ t. omega arith in
          rw (counts_one, p, ne_eqb k (8193 + name s i) e)
      go false false p q d =
          let r : server_of (k - 8193) ≡ s → ⊥ = eqb-false (server_of (k - 8193)) s q in
          let e : k ≡ 8193 + name s i → ⊥ = λ t. r (omega arith) in
          rw (counts_one, p, q, ne_eqb k (8193 + name s i) e)
      go false true p q (yes d) =
          let g : 8193 ≤ k = ltb-false k 8193 p in
          let r : server_of (k - 8193) ≡ s = eqb-true (server_of (k - 8193)) s q in
          let e : k ≡ 8193 + name s i = omega arith in
          rw (counts_one, p, q, with_b, eq-eqb k (8193 + name s i) e, ← d) (get_or-set_same (N.flags_in slots ws) i b false h)
      go false true p q (no d) =
          let e : k ≡ 8193 + name s i → ⊥ = λ t. d (omega arith) in
          rw (counts_one, p, q, with_b, ne_eqb k (8193 + name s i) e) (get_or-set_other (N.flags_in slots ws) (slot_of (k - 8193)) i b false d)

  own_at : (n : ℕ) (ws : List ℕ) → length ws ≡ 16 → i < length (N.flags_in slots ws)
      → get_or (N.flags_in slots (counts x s n ws)) i false ≡ own_or x (first_of (own_number x) n (8193 + name s i)) (get_or (N.flags_in slots ws) i false)
  unfolding counts first_of
  own_at zero ws l h = refl
  own_at (suc n) ws l h =
      own_at n (counts_one x s n ws) (length_one x s n ws ∙ l) (rw (length_of slots (counts_one x s n ws) ws (length_one x s n ws)) h)
      ∙ go (first_of (own_number x) n (8193 + name s i)) refl
    where
      go : (f : Found) → first_of (own_number x) n (8193 + name s i) ≡ f
          → own_or x (first_of (own_number x) n (8193 + name s i)) (get_or (N.flags_in slots (counts_one x s n ws)) i false)
          ≡ own_or x (or_found (first_of (own_number x) n (8193 + name s i)) (cond (eqb (own_number x n) (8193 + name s i)) (Some n) None)) (get_or (N.flags_in slots ws) i false)
      go (Some j) e = rw e
      go None e = rw e (at_one n ws l h)

-- ---- the same of the plan's vector
abbrev written_or : Option Val → Bool → Bool
written_or (some v) b = is_taken v
written_or none b = b

length_counted : (w : Writes) (s : ℕ) (fs : List Bool) → length (counted w s fs) ≡ length fs
length_counted [] s fs = refl
length_counted ((meta, v) ∷ w) s fs = length_counted w s fs
length_counted ((node n, v) ∷ w) s fs = length_counted w s fs
length_counted ((flag n, v) ∷ w) s fs = go (ℕ_discrete (server_of n) s) ∙ length_counted w s fs
  where
    go : (d : Dec (server_of n ≡ s)) → length (ifd d (set (counted w s fs) (slot_of n) (is_taken v)) (counted w s fs)) ≡ length (counted w s fs)
    go (yes e) = simp length-set
    go (no e) = refl

counted_at : (w : Writes) (s i : ℕ) (fs : List Bool) → i < 1024 → i < length fs
    → get_or (counted w s fs) i false ≡ written_or (write_of w (flag (name s i))) (get_or fs i false)
counted_at [] s i fs small h = refl
counted_at ((meta, v) ∷ w) s i fs small h = counted_at w s i fs small h
counted_at ((node n, v) ∷ w) s i fs small h = counted_at w s i fs small h
counted_at ((flag n, v) ∷ w) s i fs small h = go (counted_at w s i fs small h) (ℕ_discrete (server_of n) s) (ℕ_discrete (name s i) n) (ℕ_discrete i (slot_of n))
  where
    fs' : List Bool
    fs' = counted w s fs

    go : get_or fs' i false ≡ written_or (write_of w (flag (name s i))) (get_or fs i false) → (d : Dec (server_of n ≡ s)) (e : Dec (name s i ≡ n)) → Dec (i ≡ slot_of n)
        → get_or (ifd d (set fs' (slot_of n) (is_taken v)) fs') i false ≡ written_or (cond (yes? e) (some v) (write_of w (flag (name s i)))) (get_or fs i false)
    go ih (yes d) (yes e) (yes f) = rw (← f) (get_or-set_same fs' i (is_taken v) false (rw (length_counted w s fs) h))
    go ih (yes d) (yes e) (no f) = absurd (f (omega arith))
    go ih (yes d) (no e) (yes f) = absurd (e (omega arith))
    go ih (yes d) (no e) (no f) = get_or-set_other fs' (slot_of n) i (is_taken v) false f ∙ ih
    go ih (no d) (yes e) f = absurd (d (omega arith))
    go ih (no d) (no e) f = ih

-- ---- both are one
module _ (slots : ℕ) (x : List ℕ) (w : Writes) (hold : HoldsWrites slots x w) (s : ℕ) (there : s < 8) where
  same_or : (i : ℕ) (b : Bool) → i < 1024 → i < slots → own_or x (own_find x (8193 + name s i)) b ≡ written_or (write_of w (flag (name s i))) b
  unfolding name_in_store
  same_or i b small h =
      let p : server_of (name s i) ≡ s = omega arith in
      let q : slot_of (name s i) ≡ i = omega arith in
      let t : in_store slots (name s i) ≡ true = rw (in_store, p, q, lt-ltb s 8 there, lt-ltb i slots h) in
      rw (← hold.same (flag (name s i)) t) (go (own_find x (8193 + name s i)))
    where
      go : (f : Found) → own_or x f b ≡ written_or (own_value x (flag (name s i)) f) b
      go (Some j) = refl
      go None = refl

  pub counted_is : (ws : List ℕ) → length ws ≡ 16 → N.flags_in slots (counts x s (own_count x) ws) ≡ take slots (counted w s (N.flags_in slots ws))
  unfolding own_find N.flags_in
  counted_is ws l =
      let few : length fs ≤ slots = omega (arith, length-take slots (N.all_flags ws)) in
      let most : length fs ≤ 1024 = omega (arith, length-take slots (N.all_flags ws), length_flags ws) in
      let e : length (N.flags_in slots (counts x s (own_count x) ws)) ≡ length fs = length_of slots (counts x s (own_count x) ws) ws (length_counts x s (own_count x) ws) in
      let f : length (counted w s fs) ≡ length fs = length_counted w s fs in
      rw (take_all slots (counted w s fs) (omega arith))
      (ext_get_or false (N.flags_in slots (counts x s (own_count x) ws)) (counted w s fs) (e ∙ sym f) (λ i h.
      let a : i < length fs = omega arith in
      let b : i < 1024 = omega arith in
      own_at x s slots i b (own_count x) ws l a ∙ same_or i (get_or fs i false) b (omega arith) ∙ sym (counted_at w s i fs b a)))
    where
      fs : List Bool
      fs = N.flags_in slots ws

-- ---- ways out of the code that counts
module _ (x : List ℕ) (s i : ℕ) (ws : List ℕ) where
  abbrev k : ℕ
  k = get_or x (34 * i + 1) 0

  pub count_no_flag : k < 8193 → ws ≡ counts_one x s i ws
  unfolding counts_one own_number
  count_no_flag h = rw (counts_one, own_number, lt-ltb k 8193 h)

  module _ (t : ℕ) (o : t ≡ server_of (k - 8193)) (h : 8193 ≤ k) where
    pub count_elsewhere : (t ≡ s → ⊥) → ws ≡ counts_one x s i ws
    unfolding counts_one own_number
    count_elsewhere d = rw (counts_one, own_number, le-ltb k 8193 h, ← o, ne_eqb t s d)

    pub count_flag : (q : Node) (l : ℕ) (r : List ℕ) → t ≡ s → q ≡ own_record x i → l ≡ slot_of (k - 8193) → r ≡ with_flag ws l (eqb (get_or q.slots 0 0) 1)
        → r ≡ counts_one x s i ws
    unfolding counts_one own_number
    count_flag q l r d p a e = rw (counts_one, own_number, le-ltb k 8193 h, ← o, eq-eqb t s d, ← p, ← a) e

pub ruleset count_exits = (count_no_flag, count_elsewhere, count_flag)

-- the items from i on are counted
pub record Counting (x : List ℕ) (s : ℕ) (seen ws : List ℕ) (i : ℕ) : Type 0 where
  pub most : i ≤ 20
  pub same : counts x s (get_or x 0 0) seen ≡ counts x s i ws

module _ (x : List ℕ) (s : ℕ) (seen : List ℕ) where
  pub counting_none : OwnFits x → Counting x s seen seen (get_or x 0 0)
  counting_none f = record { most = f.few; same = refl }

  pub counting_next : (ws ws' : List ℕ) (i : ℕ) → Counting x s seen ws i → 0 < i → ws' ≡ counts_one x s (i - 1) ws → Counting x s seen ws' (i - 1)
  unfolding counts
  counting_next ws ws' zero c h e = absurd (omega arith)
  counting_next ws ws' (suc i) c h e = let d : suc i - 1 ≡ i = omega arith in record { most = omega (arith, c.most); same = rw (e, d) c.same }

  pub counting_all : (ws : List ℕ) (i : ℕ) → Counting x s seen ws i → i ≤ 0 → ws ≡ counts x s (get_or x 0 0) seen
  unfolding counts
  counting_all ws i c h = let d : i ≡ 0 = omega arith in rw (c.same, d)

pub ruleset counting_exits = (counting_none, counting_next, counting_all)
