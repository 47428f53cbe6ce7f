-- THE THEOREMS on operations, stated. A snapshot is what all objects are at one moment; `objects` leaves out what its vectors say.
use Rattle.std.specs.Prelude.{◌≡◌, true, false, ℕ, zero, suc, []}
use Rattle.plans.specs.Plan.{gives, fails, exec}
use Rattle.operations.specs.Object.{Obj, meta, node, flag, Ask, vector, fetched, Val, flags_of, root, taken, free, no_tree, Ans, Writes, over, objects, Why, no_slot}
use Rattle.operations.specs.Map.{Map, Op, answer, compared, map_after}
use Rattle.operations.specs.Entry.{node_value}
use Rattle.operations.specs.Operation.{plan}
use Rattle.operations.specs.Tree.{HoldsTree, TrueOf}

module _ (slots : ℕ) (op : Op) where
  -- on a snapshot that holds a B-tree of a map, whatever its vectors say, an operation that answers gives the map's answer, and its writes
  -- leave a B-tree of the map after it
  abbrev pub Sound : Type 0
  Sound = (S : Ask → Val) (m : Map) (a : Ans) (w : Writes) → HoldsTree (objects S) m → exec (plan slots op) S ≡ gives (a, w)
      → (compared op ≡ true → a ≡ answer op m) × HoldsTree (over w (objects S)) (map_after op m)

  -- and it never finds that "what was read can't be one tree"
  abbrev pub NoReason3 : Type 0
  NoReason3 = (S : Ask → Val) (m : Map) → HoldsTree (objects S) m → exec (plan slots op) S ≡ fails no_tree → ⊥

-- the vectors show the flags of the snapshot
abbrev pub Current : (Ask → Val) → Type 0
Current S = (s : ℕ) → TrueOf (objects S) s (flags_of (S (vector s))) × TrueOf (objects S) s (flags_of (S (fetched s)))

-- with such vectors the only reason left is 5, "no slot is free"
abbrev pub OnlyReason5 : ℕ → Op → Type 0
OnlyReason5 slots op = (S : Ask → Val) (m : Map) → HoldsTree (objects S) m → Current S → (y : Why) → exec (plan slots op) S ≡ fails y → y ≡ no_slot

-- "A new store has the root, an empty leaf, in node 0", whatever its servers' states
abbrev pub new_store : ℕ → Obj → Val
new_store states meta = root 0 states
new_store states (node zero) = node_value 0 []
new_store states (node (suc n)) = free
new_store states (flag zero) = taken true
new_store states (flag (suc n)) = taken false

-- it holds the empty map
abbrev pub NewHolds : Type 0
NewHolds = (states : ℕ) → HoldsTree (new_store states) []
