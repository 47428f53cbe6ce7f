-- BOTH EARS: of two keys that are always written together, a decided transaction gets answers of one transaction: both new, or both old.
use Rattle.std.specs.Prelude.{◌≡◌, refl, Bool, true, false, cond, ◌||◌, List, [], ◌∷◌, ◌++◌, ℕ, eqb}
use Rattle.std.proofs.Math.Option.{Option, none, some}
use Rattle.plans.specs.Walk.{Every}
use Rattle.operations.specs.Object.{Ans}
use Rattle.operations.specs.Map.{Op, insert, lookup, delete, next, previous, migrate, list, said}
use Rattle.demand.specs.Ledger.{Told, RightAll}

-- does an operation write the key k
abbrev pub op_writes : ℕ → Op → Bool
op_writes k (insert i v) = eqb i k
op_writes k (lookup i) = false
op_writes k (delete i) = eqb i k
op_writes k (next i) = false
op_writes k (previous i) = false
op_writes k (migrate n s) = false
op_writes k (list i n) = false

-- what an operation leaves at the key that it writes: a value, or none where it takes the key out
abbrev pub op_leaves : Op → Option ℕ
op_leaves (insert i v) = some v
op_leaves (lookup i) = none
op_leaves (delete i) = none
op_leaves (next i) = none
op_leaves (previous i) = none
op_leaves (migrate n s) = none
op_leaves (list i n) = none

-- does a transaction write the key
unfoldable pub tx_writes : ℕ → List Told → Bool
tx_writes k [] = false
tx_writes k (t ∷ ts) = op_writes k t.op || tx_writes k ts

-- what its last write leaves there
unfoldable pub tx_leaves : ℕ → List Told → Option ℕ
tx_leaves k [] = none
tx_leaves k (t ∷ ts) = cond (op_writes k t.op) (op_leaves t.op) (tx_leaves k ts)

-- decided transactions, the last first, without those since the last one that writes the key: that one is now the first. Empty where none writes it
unfoldable pub up_to_writer : ℕ → List (List Told) → List (List Told)
up_to_writer k [] = []
up_to_writer k (ts ∷ l) = cond (tx_writes k ts) (ts ∷ l) (up_to_writer k l)

-- what a lookup answers where the key is as the first of them left it; "not found" where there is none
abbrev pub of_first : ℕ → List (List Told) → Ans
of_first k [] = said none
of_first k (ts ∷ l) = said (tx_leaves k ts)

-- "written together": each transaction writes both keys, or neither
abbrev pub Together : ℕ → ℕ → List (List Told) → Type 0
Together l r = Every (λ (ts : List Told). tx_writes l ts ≡ tx_writes r ts)

-- a transaction looks up the key and is answered a, before it writes that key itself
pub record LooksUp (k : ℕ) (a : Ans) (ts : List Told) : Type 0 where
  pub later : List Told
  pub earlier : List Told
  pub is : ts ≡ later ++ record { op = lookup k; ans = a } ∷ earlier
  pub unwritten : tx_writes k earlier ≡ false

-- both answers are what one transaction left there, the last before that wrote either key; or neither key is found, and none has written them
pub record OfOne (l r : ℕ) (a b : Ans) (before : List (List Told)) : Type 0 where
  pub one : up_to_writer l before ≡ up_to_writer r before
  pub left : a ≡ of_first l (up_to_writer l before)
  pub right : b ≡ of_first r (up_to_writer r before)

-- The claim: ts is any decided transaction, decided after those of `before`.
abbrev pub BothEars : Type 0
BothEars = (l r : ℕ) (a b : Ans) (after before : List (List Told)) (ts : List Told) → RightAll (after ++ ts ∷ before)
    → Together l r before → LooksUp l a ts → LooksUp r b ts → OfOne l r a b before

-- A child's ears are keys 40 and 41. The first transaction enters both, the second changes both, the third is another child's. Then both
-- answers are the second's; had 40 been written by the third, the one would be of the third and the other of the second.
abbrev enters : ℕ → ℕ → Told
enters k v = record { op = insert k v; ans = (1, 0, []) }

abbrev story : List Told → List (List Told)
story third = third ∷ (enters 41 20 ∷ enters 40 20 ∷ []) ∷ (enters 41 60 ∷ enters 40 55 ∷ []) ∷ []

pub ears_sample : let both = story (enters 50 7 ∷ []) in
    (of_first 40 (up_to_writer 40 both) ≡ (1, 20, [])) × (of_first 41 (up_to_writer 41 both) ≡ (1, 20, [])) × (of_first 42 (up_to_writer 42 both) ≡ (0, 0, []))
    × (of_first 40 (up_to_writer 40 (story (enters 40 7 ∷ []))) ≡ (1, 7, []))
unfolding up_to_writer tx_writes tx_leaves
ears_sample = (refl, refl, refl, refl)
