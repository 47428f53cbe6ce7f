-- The table of an added server: "slot by slot, the largest number in its own earlier table or in those of servers not absent".
use Rattle.std.specs.Prelude.{◌≡◌, Bool, [], ◌∷◌, ◌⊎◌, leb, get_or}
use Rattle.std.proofs.Math.Path.{refl, ap, subst}
use Rattle.std.proofs.Common.{sym, ◌∙◌, arith, leb-true, leb-false}
use Rattle.std.proofs.Math.Bool.{true, false, cond}
use Rattle.std.proofs.Math.Logic.{inl, inr}
use Prim.Native.Nat.{ℕ, zero, suc, ◌≤◌, ◌<◌}
use Rattle.std.proofs.Math.Decide.{ℕ_discrete}
use Rattle.base.specs.Test.{not_both}
use Rattle.layout.specs.Space.{put, written, changed}
use Rattle.layout.proofs.Laws.Space.{written_same, written_other}
use Rattle.layout.proofs.Laws.Step.{changed_append}
use Rattle.server.specs.declared.place.Place.{Place}
use Rattle.server.specs.declared.place.Place.TheVariants.{Table}
use Rattle.server.specs.Layout.{place_again, places, place_code}
use Rattle.server.specs.Store.{versions_row, versions_step}
use Rattle.steps.specs.Servers.{larger, largest}

-- ---- the largest number
larger_left : (a b : ℕ) → a ≤ larger a b
unfolding larger
larger_left a b = go (leb a b) refl
  where
    go : (t : Bool) → leb a b ≡ t → a ≤ cond t b a
    go true e = leb-true a b e
    go false e = omega arith

larger_right : (a b : ℕ) → b ≤ larger a b
unfolding larger
larger_right a b = go (leb a b) refl
  where
    go : (t : Bool) → leb a b ≡ t → b ≤ cond t b a
    go true e = omega arith
    go false e = omega (arith, leb-false a b e)

larger_one : (a b : ℕ) → (larger a b ≡ a) ⊎ (larger a b ≡ b)
unfolding larger
larger_one a b = go (leb a b)
  where
    go : (t : Bool) → (cond t b a ≡ a) ⊎ (cond t b a ≡ b)
    go true = inr refl
    go false = inl refl

module _ (p : ℕ → Bool) (f : ℕ → ℕ) (a : ℕ) where
  pub largest_above : (n u : ℕ) → u < n → p u ≡ true → f u ≤ largest p f n a
  unfolding largest
  largest_above zero u l h = absurd (omega arith)
  largest_above (suc n) u l h = go (ℕ_discrete u n) (p n) refl (λ q. largest_above n u q h)
    where
      go : Dec (u ≡ n) → (b : Bool) → p n ≡ b → (u < n → f u ≤ largest p f n a) → f u ≤ cond b (larger (largest p f n a) (f n)) (largest p f n a)
      go (yes e) true q rec = subst (λ (x : ℕ). f x ≤ larger (largest p f n a) (f n)) (sym e) (larger_right (largest p f n a) (f n))
      go (yes e) false q rec = absurd (not_both (subst (λ (x : ℕ). p x ≡ true) e h) q)
      go (no d) true q rec = omega (arith, rec (omega arith), larger_left (largest p f n a) (f n))
      go (no d) false q rec = rec (omega arith)

  abbrev From : ℕ → ℕ → Type 0
  From n x = (x ≡ a) ⊎ ((u : ℕ) × (u < n) × (p u ≡ true) × (x ≡ f u))

  pub largest_from : (n : ℕ) → From n (largest p f n a)
  unfolding largest
  largest_from zero = inl refl
  largest_from (suc n) = go (p n) refl (largest_from n)
    where
      more : (x : ℕ) → From n x → From (suc n) x
      more x (inl e) = inl e
      more x (inr r) = inr (r.0, omega (arith, r.1), r.2, r.3)

      one : (larger (largest p f n a) (f n) ≡ largest p f n a) ⊎ (larger (largest p f n a) (f n) ≡ f n) → p n ≡ true → From n (largest p f n a)
          → From (suc n) (larger (largest p f n a) (f n))
      one (inl e) q rec = subst (From (suc n)) (sym e) (more (largest p f n a) rec)
      one (inr e) q rec = inr (n, omega arith, q, e)

      go : (b : Bool) → p n ≡ b → From n (largest p f n a) → From (suc n) (cond b (larger (largest p f n a) (f n)) (largest p f n a))
      go true q rec = one (larger_one (largest p f n a) (f n)) q rec
      go false q rec = more (largest p f n a) rec

-- it depends on the servers below n alone
pub largest_same : (p q : ℕ → Bool) (f g : ℕ → ℕ) (a b n : ℕ) → a ≡ b → ((u : ℕ) → u < n → (p u ≡ q u) × (f u ≡ g u)) → largest p f n a ≡ largest q g n b
unfolding largest
largest_same p q f g a b zero e h = e
largest_same p q f g a b (suc n) e h =
    let r = largest_same p q f g a b n e (λ u l. h u (omega arith)) in
    let t = h n (omega arith) in
    λ i. cond (t.0 i) (larger (r i) (t.1 i)) (r i)

-- ---- the stores
server_in : Place → ℕ
server_in a = get_or (place_code a) 3 0

slot_in : Place → ℕ
slot_in a = get_or (place_code a) 1 0

module _ (v : ℕ → ℕ → ℕ) where
  row_miss : (n i : ℕ) (q : Place → ℕ) (a : Place) → ((t : ℕ) → ¬ (a ≡ Table t i)) → changed places q (versions_row v i n) a ≡ q a
  unfolding versions_row changed
  row_miss zero i q a h = refl
  row_miss (suc n) i q a h =
      ap (λ (f : Place → ℕ). f a) (changed_append places (versions_row v i n) (put (Table n i) (v n i) ∷ []) q)
      ∙ written_other places place_again (changed places q (versions_row v i n)) (Table n i) (v n i) a (h n) ∙ row_miss n i q a h

  row_hit : (n i : ℕ) (q : Place → ℕ) (t : ℕ) → t < n → changed places q (versions_row v i n) (Table t i) ≡ v t i
  unfolding versions_row changed server_in
  row_hit zero i q t l = absurd (omega arith)
  row_hit (suc n) i q t l =
      ap (λ (f : Place → ℕ). f (Table t i)) (changed_append places (versions_row v i n) (put (Table n i) (v n i) ∷ []) q) ∙ go (ℕ_discrete t n) (row_hit n i q t)
    where
      f : Place → ℕ
      f = changed places q (versions_row v i n)

      go : Dec (t ≡ n) → (t < n → f (Table t i) ≡ v t i) → written places f (Table n i) (v n i) (Table t i) ≡ v t i
      go (yes e) rec = subst (λ (x : ℕ). written places f (Table n i) (v n i) (Table x i) ≡ v x i) (sym e) (written_same places f (Table n i) (v n i))
      go (no d) rec = written_other places place_again f (Table n i) (v n i) (Table t i) (λ z. d (ap server_in z)) ∙ rec (omega arith)

  -- nothing but the table
  pub versions_else : (n : ℕ) (q : Place → ℕ) (a : Place) → ((t i : ℕ) → ¬ (a ≡ Table t i)) → changed places q (versions_step v n) a ≡ q a
  unfolding versions_step changed
  versions_else zero q a h = refl
  versions_else (suc n) q a h =
      ap (λ (f : Place → ℕ). f a) (changed_append places (versions_step v n) (versions_row v n 8) q)
      ∙ row_miss 8 n (changed places q (versions_step v n)) a (λ t. h t n) ∙ versions_else n q a h

  -- the table's entries
  pub versions_at : (n : ℕ) (q : Place → ℕ) (t i : ℕ) → t < 8 → i < n → changed places q (versions_step v n) (Table t i) ≡ v t i
  unfolding versions_step slot_in
  versions_at zero q t i h l = absurd (omega arith)
  versions_at (suc n) q t i h l =
      ap (λ (f : Place → ℕ). f (Table t i)) (changed_append places (versions_step v n) (versions_row v n 8) q) ∙ go (ℕ_discrete i n) (versions_at n q t i h)
    where
      f : Place → ℕ
      f = changed places q (versions_step v n)

      go : Dec (i ≡ n) → (i < n → f (Table t i) ≡ v t i) → changed places f (versions_row v n 8) (Table t i) ≡ v t i
      go (yes e) rec = subst (λ (x : ℕ). changed places f (versions_row v n 8) (Table t x) ≡ v t x) (sym e) (row_hit 8 n f t h)
      go (no d) rec = row_miss 8 n f (Table t i) (λ x z. d (ap slot_in z)) ∙ rec (omega arith)
