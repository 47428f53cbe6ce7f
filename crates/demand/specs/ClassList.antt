-- THE CLASS LIST: "Fewer are written only where the tree, as the transaction read it, has fewer", and "In a decided transaction the list is the map's at
-- that place in decision order."
use Rattle.std.specs.Prelude.{◌≡◌, refl, List, [], ◌∷◌, ◌++◌, ℕ, ◌<◌, length, take}
use Rattle.std.proofs.Math.Decide.{dec_le}
use Rattle.operations.specs.Object.{Ans}
use Rattle.operations.specs.Map.{Map, list, upward, listed}
use Rattle.demand.specs.Ledger.{Told, map_of, map_all, RightAll}

-- a transaction lists from the key k upward, at most n pairs, and is answered a
pub record Lists (k n : ℕ) (a : Ans) (ts : List Told) : Type 0 where
  pub later : List Told
  pub earlier : List Told
  pub is : ts ≡ later ++ record { op = list k n; ans = a } ∷ earlier

-- what such an answer says of the map m
pub record ListedFrom (k n : ℕ) (a : Ans) (m : Map) : Type 0 where
  -- its pairs are the map's, and it tells their number
  pub pairs : a.2 ≡ take n (upward k m)
  pub number : a.0 ≡ length a.2
  -- where they are fewer than n, the map has no more
  pub all : a.0 < n → a.2 ≡ upward k m

-- The claim: ts is any decided transaction, decided after those of `before`. The map is the one that those left, with the list's own transaction's
-- earlier operations.
abbrev pub ClassList : Type 0
ClassList = (k n : ℕ) (a : Ans) (after before : List (List Told)) (ts : List Told) → RightAll (after ++ ts ∷ before)
    → (l : Lists k n a ts) → ListedFrom k n a (map_of l.earlier (map_all before))

-- Of the keys 3, 5 and 9: two from 5 upward are all that there are of three asked for; of one asked for there is one more.
abbrev three : Map
three = (3, 30) ∷ (5, 50) ∷ (9, 90) ∷ []

pub list_sample : (listed (take 3 (upward 5 three)) ≡ (2, 0, upward 5 three)) × (listed (take 1 (upward 5 three)) ≡ (1, 0, (5, 50) ∷ []))
unfolding dec_le
list_sample = (refl, refl)
