-- THE STARRED CASES of document 01's "Tried by hand": one table, a row for each, in its order and under its words. Those of operations run the
-- plan that a work step walks on a small snapshot, and show the tree that it leaves.
use Rattle.std.specs.Prelude.{◌≡◌, Bool, true, false, cond, List, [], ◌∷◌, ◌++◌, map, ℕ, zero, suc, ◌+◌, ◌-◌, eqb, get_or, replicate}
use Rattle.plans.specs.Plan.{Out, gives, fails, exec}
use Rattle.nodes.specs.Name.{name, server_of, slot_of}
use Rattle.nodes.specs.Placement.{row}
use Rattle.nodes.specs.States.{first_states}
use Rattle.operations.specs.Object.{Obj, meta, node, flag, Ask, object, vector, fetched, Val, root, taken, flags, free, keys_in, level_of, slots_in, root_of, Why, Ans, Writes, over, objects}
use Rattle.operations.specs.Map.{Map, Op, insert, delete, next, previous, answer}
use Rattle.operations.specs.Entry.{Entries, node_value}
use Rattle.operations.specs.Operation.{plan}

-- ---- small snapshots: two open servers of 16 slots
abbrev pub two : ℕ
two = first_states 2

-- a vector with the first n slots taken
abbrev pub first_taken : ℕ → List Bool
first_taken n = replicate n true ++ replicate (16 - n) false

-- an empty memory: node 0 is named as the root, all nodes are free
abbrev pub none_there : Obj → Val
none_there meta = root 0 two
none_there (node n) = free
none_there (flag n) = taken false

-- some objects, the rest as in an empty memory; the servers' vectors
abbrev pub store : List (List Bool) → Writes → Ask → Val
store vs w (object o) = over w none_there o
store vs w (vector s) = flags (get_or vs s [])
store vs w (fetched s) = flags (get_or vs s [])

-- on server 0 the slots 0 to 9 are taken, on server 1 none
abbrev pub small : Writes → Ask → Val
small = store (first_taken 10 ∷ first_taken 0 ∷ [])

-- n keys k, k + 1, .. of a leaf, each its own value
abbrev pub leaf : ℕ → ℕ → Entries
leaf k zero = []
leaf k (suc n) = (k, k) ∷ leaf (suc k) n

-- n children c, c + 1, .. of an inner node, from the keys k, k + 10, .. on
abbrev pub tens : ℕ → ℕ → ℕ → Entries
tens k c zero = []
tens k c (suc n) = (k, c) ∷ tens (k + 10) (suc c) n

-- leaves from 1 on (j keys) and from k on (n keys) below the root
abbrev pub pair : ℕ → ℕ → ℕ → Ask → Val
pair j k n = small ((node 0, node_value 1 ((0, 1) ∷ (k, 2) ∷ [])) ∷ (node 1, node_value 0 (leaf 1 j)) ∷ (node 2, node_value 0 (leaf k n)) ∷ [])

-- the root is a leaf with the keys 1 to 14
abbrev full_root : Ask → Val
full_root = small ((node 0, node_value 0 (leaf 1 14)) ∷ [])

-- the root is inner, with the keys 10, 20 .. 140; its last child is a full leaf, whose split sends 150 up
abbrev inner_root : Ask → Val
inner_root = small ((node 0, node_value 1 (tens 0 20 15)) ∷ (node 34, node_value 0 (leaf 143 14)) ∷ [])

-- the map with keys 5 and 9
abbrev five_nine : Map
five_nine = (5, 50) ∷ (9, 90) ∷ []

-- a tree of it: one leaf
abbrev five_nine_tree : Ask → Val
five_nine_tree = small ((node 0, node_value 0 five_nine) ∷ [])

-- ---- what is shown: a tree as the keys of its root, then those of each child; a leaf has no child
abbrev tree_keys : (Obj → Val) → List (List ℕ)
tree_keys S =
    let top = S (node (root_of (S meta))) in
    keys_in top ∷ cond (eqb (level_of top) 0) [] (map (λ n. keys_in (S (node n))) (slots_in top))

-- what comes of an operation's plan
unfoldable pub comes_to : Op → (Ask → Val) → Out (Ans × Writes) Why
comes_to op M = exec (plan 16 op) M

-- the tree that a plan has left; none where it failed
abbrev tree_left : (Ask → Val) → Out (Ans × Writes) Why → List (List ℕ)
tree_left M (gives r) = tree_keys (over r.1 (objects M))
tree_left M (fails y) = []

-- the tree after an operation on M
abbrev tree_after : Op → (Ask → Val) → List (List ℕ)
tree_after op M = tree_left M (comes_to op M)

-- a and b of an answer
abbrev a_and_b : Ans → List ℕ
a_and_b a = a.0 ∷ a.1 ∷ []

-- those that a plan has given
abbrev answer_of : Out (Ans × Writes) Why → List ℕ
answer_of (gives r) = a_and_b r.0
answer_of (fails y) = []

-- n numbers from a on, d apart
abbrev from : ℕ → ℕ → ℕ → List ℕ
from d a zero = []
from d a (suc n) = a ∷ from d (a + d) n

-- ---- THE TABLE: each row what the definitions give, and what 01 says
abbrev pub cases : List (List (List ℕ) × List (List ℕ))
cases =
    -- "Leaf 1 to 14, insert 15: 1 to 7, 8 to 15; 8 goes up."
    (tree_after (insert 15 15) full_root, (8 ∷ []) ∷ from 1 1 7 ∷ from 1 8 8 ∷ [])
    -- "Insert 14: no split."
    ∷ (tree_after (insert 14 5) full_root, from 1 1 14 ∷ [])
    -- "Inner 10, 20 .. 150: 10 to 70; 80 up; 90 to 150."
    ∷ (tree_after (insert 157 157) inner_root, (80 ∷ []) ∷ from 10 10 7 ∷ from 10 90 7 ∷ [])
    -- "Leaves 1 to 7 and 8 to 15, delete 3: 8 moves, separator 9."
    ∷ (tree_after (delete 3) (pair 7 8 8), (9 ∷ []) ∷ (1 ∷ 2 ∷ from 1 4 5) ∷ from 1 9 7 ∷ [])
    -- "With 8 to 14: one leaf of 13", which the root takes over
    ∷ (tree_after (delete 3) (pair 7 8 7), (1 ∷ 2 ∷ from 1 4 11) ∷ [])
    -- "Leaves 1 to 8 and 9 to 15, delete 12, last child: 8 moves, separator 8."
    ∷ (tree_after (delete 12) (pair 8 9 7), (8 ∷ []) ∷ from 1 1 7 ∷ (from 1 8 4 ++ from 1 13 3) ∷ [])
    -- "Row 3: 3 2 1 0 7 6 5 4."
    ∷ (row 3 ∷ [], (3 ∷ 2 ∷ 1 ∷ 0 ∷ 7 ∷ 6 ∷ 5 ∷ 4 ∷ []) ∷ [])
    -- "Node 2,049 is server 2, slot 1."
    ∷ ((server_of 2049 ∷ slot_of 2049 ∷ name 2 1 ∷ []) ∷ [], (2 ∷ 1 ∷ 2049 ∷ []) ∷ [])
    -- "Map with keys 5, 9: next of 9 and previous of 5 none." By the map, and by the plans on a tree of it
    ∷ (
      a_and_b (answer (next 9) five_nine) ∷ a_and_b (answer (previous 5) five_nine)
          ∷ answer_of (comes_to (next 9) five_nine_tree) ∷ answer_of (comes_to (previous 5) five_nine_tree) ∷ [],
      (0 ∷ 0 ∷ []) ∷ (0 ∷ 0 ∷ []) ∷ (0 ∷ 0 ∷ []) ∷ (0 ∷ 0 ∷ []) ∷ [],
    )
    ∷ []

-- THE THEOREM, stated: in every row both sides are the same
abbrev pub Tried : Type 0
Tried = map (λ r. r.0) cases ≡ map (λ r. r.1) cases
