-- A client's whole part in range. No rule asks it: it holds of every client that steps lead to, and what a rule reads is then in range.
use Rattle.std.specs.Prelude.{◌≡◌, Bool, true, ◌&&◌, List, [], ◌∷◌, ℕ, zero, suc, ◌≤◌, ◌<◌, leb, get_or}
use Rattle.std.proofs.Common.{arith}
use borrow.Author.Tests.{leb-true}
use Rattle.std.proofs.Math.Decide.{ℕ_discrete}
use Rattle.base.specs.Test.{and_both}
use Rattle.client.specs.declared.part.Set.{Set}
use Rattle.client.specs.declared.part.Set.TheVariants.{Reads, Writes, Copies}
use Rattle.client.specs.Layout.{ClientWord, field, vector_word}
use Rattle.client.specs.Record.{number_in_store, record_in_range}
use Rattle.client.specs.Sets.{count, number_at, record_at, find}
use Rattle.client.specs.Commit.{is_at}
use Rattle.client.specs.Items.{all_below}
use Rattle.client.specs.Fits.{op_fits}

-- the greatest value of each field: phase; operation's number, key, value, server; four sets of servers; lost; counts; the states in the metadata's copy
abbrev pub bounds : List ℕ
bounds =
    3 ∷ 7 ∷ 18446744073709551615 ∷ 18446744073709551615 ∷ 18446744073709551615 ∷ 255 ∷ 255 ∷ 255 ∷ 255 ∷ 1 ∷ 96 ∷ 48 ∷ 65535 ∷ []

module _ (m : ClientWord → ℕ) where
  unfoldable pub field_fits : ℕ → Bool
  field_fits i = leb (m (field i)) (get_or bounds i 0)

  -- "a written object's read"; asked of read and written items only
  unfoldable pub has_read : Set → ℕ → Bool
  has_read Reads x = true
  has_read Writes x = is_at (find m Reads x)
  has_read Copies x = true

  -- the word that says whether the vector of server s is copied is 0 or 1
  unfoldable pub vector_fits : ℕ → Bool
  vector_fits s = leb (m (vector_word s 0)) 1

module _ (slots : ℕ) (m : ClientWord → ℕ) where
  -- item i of a set: its object is one of the store, its record in range, and what is written was read
  unfoldable pub item_fits : Set → ℕ → Bool
  item_fits s i = number_in_store slots (number_at m s i) && (record_in_range slots (number_at m s i) (record_at m s i) && has_read m s (number_at m s i))

  -- the client's own state is in range: fields, the waiting operation, read set, write set, marks of the vectors' copies
  unfoldable pub client_fits : Bool
  client_fits =
      all_below 13 (field_fits m)
      && (op_fits slots m && (all_below (count m Reads) (item_fits Reads) && (all_below (count m Writes) (item_fits Writes) && all_below 8 (vector_fits m))))

-- ---- what a state in range is known by
pub all_at : (f : ℕ → Bool) (n i : ℕ) → all_below n f ≡ true → i < n → f i ≡ true
unfolding all_below
all_at f zero i h l = absurd (omega arith)
all_at f (suc n) i h l = go (and_both (all_below n f) (f n) h) (ℕ_discrete i n) (all_at f n i)
  where
    go : (all_below n f ≡ true) × (f n ≡ true) → Dec (i ≡ n) → (all_below n f ≡ true → i < n → f i ≡ true) → f i ≡ true
    go p (yes e) ih = rw e p.1
    go p (no d) ih = ih p.0 (omega arith)

module _ (slots : ℕ) (m : ClientWord → ℕ) (h : client_fits slots m ≡ true) where
  parts : (all_below 13 (field_fits m) ≡ true)
      × (op_fits slots m && (all_below (count m Reads) (item_fits slots m Reads) && (all_below (count m Writes) (item_fits slots m Writes) && all_below 8 (vector_fits m))) ≡ true)
  unfolding client_fits
  parts =
      and_both (all_below 13 (field_fits m))
      (op_fits slots m && (all_below (count m Reads) (item_fits slots m Reads) && (all_below (count m Writes) (item_fits slots m Writes) && all_below 8 (vector_fits m)))) h

  sets : (all_below (count m Reads) (item_fits slots m Reads) ≡ true) × (all_below (count m Writes) (item_fits slots m Writes) && all_below 8 (vector_fits m) ≡ true)
  sets =
      and_both (all_below (count m Reads) (item_fits slots m Reads)) (all_below (count m Writes) (item_fits slots m Writes) && all_below 8 (vector_fits m))
      (and_both (op_fits slots m) (all_below (count m Reads) (item_fits slots m Reads) && (all_below (count m Writes) (item_fits slots m Writes) && all_below 8 (vector_fits m))) parts.1).1

  -- each field is within its bound, each item of both sets is in range
  pub fits_field : (i : ℕ) → i < 13 → m (field i) ≤ get_or bounds i 0
  unfolding field_fits
  fits_field i l = leb-true _ _ (all_at (field_fits m) 13 i parts.0 l)

  pub fits_read : (i : ℕ) → i < count m Reads → item_fits slots m Reads i ≡ true
  fits_read i l = all_at (item_fits slots m Reads) (count m Reads) i sets.0 l

  pub fits_write : (i : ℕ) → i < count m Writes → item_fits slots m Writes i ≡ true
  fits_write i l =
      all_at (item_fits slots m Writes) (count m Writes) i (and_both (all_below (count m Writes) (item_fits slots m Writes)) (all_below 8 (vector_fits m)) sets.1).0 l
