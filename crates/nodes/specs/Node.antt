-- A node as its lists of keys and slots.
use Rattle.std.specs.Prelude.{ℕ, ◌+◌, ◌-◌, List, [], ◌∷◌, cond, length, take, eqb, ltb}
use Rattle.base.specs.Test.{one_if}
use Rattle.nodes.specs.declared.node.Node.{Node}
use Rattle.nodes.specs.Lists.{pad}

-- the slots of a node beyond its keys: "14 values (leaf) or one child more than keys (inner)"
unfoldable pub extra : ℕ → ℕ
extra kind = one_if (eqb kind 2)

-- the node's keys: the first ones of the array, as many as its count
unfoldable pub keys_of : Node → List ℕ
keys_of n = take n.count n.keys

-- a leaf's values, an inner node's children
unfoldable pub slots_of : Node → List ℕ
slots_of n = take (n.count + extra n.kind) n.slots

-- the node with these keys and slots
unfoldable pub made : ℕ → ℕ → ℕ → List ℕ → List ℕ → Node
made kind level version ks ss =
    record { kind = kind; level = level; version = version; count = length ks; keys = pad 14 ks; slots = pad 15 ss }

-- "Freed nodes become kind 0 and keep only a version."
unfoldable pub free_node : ℕ → Node
free_node version = made 0 0 version [] []

-- the inner node over two children: what a split root becomes
unfoldable pub parent_of : ℕ → ℕ → ℕ → ℕ → ℕ → Node
parent_of level version left sep right = made 2 level version (sep ∷ []) (left ∷ right ∷ [])

-- "turns to its right neighbour under the same parent, or to the left one if it is the last child": the left one of the two, of
-- a parent with that many keys. The separator between them has the same number.
unfoldable pub pair_at : ℕ → ℕ → ℕ
pair_at count child = cond (ltb child count) child (child - 1)
