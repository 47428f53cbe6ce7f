-- Further runs of the plans on small snapshots, one of each kind of change: what comes out, object by object, and what is asked for, in order.
use Rattle.std.specs.Prelude.{◌≡◌, Bool, true, false, List, [], ◌∷◌, ◌++◌, ℕ, replicate}
use Rattle.std.proofs.Math.Option.{some}
use Rattle.plans.specs.Plan.{gives, fails}
use Rattle.plans.specs.Walk.{used}
use Rattle.nodes.specs.States.{with_closed}
use Rattle.operations.specs.Object.{meta, node, flag, Ask, object, vector, fetched, Val, root, taken, free, not_free, no_tree, no_slot, with_value, objects}
use Rattle.operations.specs.Map.{Op, insert, lookup, delete, next, previous, migrate, list}
use Rattle.operations.specs.Entry.{node_value}
use Rattle.operations.specs.Operation.{plan}
use Rattle.operations.specs.Cases.{two, first_taken, store, small, leaf, tens, pair, comes_to}

-- what was asked for
unfoldable pub asked : Op → (Ask → Val) → List Ask
asked op M = used (plan 16 op) (λ o. some (M o))

-- a full leaf below a full inner node, with the separators 310 to 440, below the root
abbrev full_inner : Ask → Val
full_inner = small ((node 0, node_value 2 ((0, 3) ∷ (1000, 4) ∷ [])) ∷ (node 3, node_value 1 (tens 300 20 15)) ∷ (node 34, node_value 0 (leaf 443 14)) ∷ [])

-- inner nodes 3 and 4 below the root, of i and j children, with the first two leaves of 3 and two of 4
abbrev inners : ℕ → ℕ → Ask → Val
inners i j = small ((node 0, node_value 2 ((0, 3) ∷ (1000, 4) ∷ [])) ∷ (node 3, node_value 1 (tens 0 20 i)) ∷ (node 4, node_value 1 (tens 1000 40 j))
    ∷ (node 20, node_value 0 (leaf 1 7)) ∷ (node 21, node_value 0 (leaf 10 7)) ∷ (node 46, node_value 0 (leaf 1061 7)) ∷ (node 47, node_value 0 (leaf 1070 7)) ∷ [])

-- old copies that are no tree: leaf 27, by its place from 70 on, has the keys 1 to 7
abbrev torn : Ask → Val
torn = small ((node 0, node_value 2 ((0, 3) ∷ (1000, 4) ∷ [])) ∷ (node 3, node_value 1 (tens 0 20 8)) ∷ (node 4, node_value 1 (tens 1000 40 8))
    ∷ (node 26, node_value 0 (leaf 60 7)) ∷ (node 27, node_value 0 (leaf 1 7)) ∷ (node 40, node_value 0 (leaf 1001 7)) ∷ [])

-- a full leaf below the root, with these vectors
abbrev full_leaf : List (List Bool) → Ask → Val
full_leaf vs = store vs ((node 0, node_value 1 ((0, 4) ∷ (8, 2) ∷ [])) ∷ (node 2, node_value 0 (leaf 8 14)) ∷ [])

-- the snapshot with the server s closing
abbrev closing : ℕ → (Ask → Val) → Ask → Val
closing s M (object o) = with_value meta (root 0 (with_closed two s)) (objects M) o
closing s M (vector t) = M (vector t)
closing s M (fetched t) = M (fetched t)

-- a leaf that is the root, with the keys 21 to 34
abbrev full_root : Ask → Val
full_root = small ((node 0, node_value 0 (leaf 21 14)) ∷ [])

-- THE EXAMPLES
pub record Examples : Type 0 where
  -- "a split root keeps its name as parent and both halves get new ones"; "Of a root's halves the left is placed first."
  pub root_split : comes_to (insert 35 35) full_root
      ≡ gives (
        (1, 0, []),
        (node 0, node_value 1 ((0, 10) ∷ (28, 11) ∷ [])) ∷ (node 11, node_value 0 (leaf 28 8)) ∷ (node 10, node_value 0 (leaf 21 7))
            ∷ (flag 11, taken true) ∷ (flag 10, taken true) ∷ [],
      )
  pub root_split_asks : asked (insert 35 35) full_root
      ≡ object meta ∷ object (node 0) ∷ object meta ∷ vector 0 ∷ object (flag 10) ∷ object meta ∷ vector 0 ∷ object (flag 11) ∷ object (node 10) ∷ object (node 11) ∷ []
  -- "The left half keeps the name": below the root
  pub leaf_split : comes_to (insert 22 22) (pair 7 8 14)
      ≡ gives ((1, 0, []), (node 0, node_value 1 ((0, 1) ∷ (8, 2) ∷ (15, 10) ∷ [])) ∷ (node 10, node_value 0 (leaf 15 8)) ∷ (node 2, node_value 0 (leaf 8 7)) ∷ (flag 10, taken true) ∷ [])
  -- a leaf splits two levels below the root, and so its parent splits too
  pub inner_split : comes_to (insert 457 457) full_inner
      ≡ gives (
        (1, 0, []),
        (node 0, node_value 2 ((0, 3) ∷ (380, 11) ∷ (1000, 4) ∷ []))
            ∷ (node 11, node_value 1 (tens 380 28 7 ++ (450, 10) ∷ [])) ∷ (node 3, node_value 1 (tens 300 20 8)) ∷ (flag 11, taken true)
            ∷ (node 10, node_value 0 (leaf 450 8)) ∷ (node 34, node_value 0 (leaf 443 7)) ∷ (flag 10, taken true) ∷ [],
      )
  -- two leaves merge, and the root takes the one over: the flags of both freed slots are asked for last
  pub collapse_asks : asked (delete 3) (pair 7 8 7) ≡ object meta ∷ object (node 0) ∷ object (node 1) ∷ object (node 2) ∷ object (flag 2) ∷ object (flag 1) ∷ []
  -- the last of three leaves merges into its left neighbour, and the root keeps a key
  pub merged_left : comes_to (delete 16) (small ((node 0, node_value 1 ((0, 1) ∷ (8, 2) ∷ (15, 3) ∷ [])) ∷ (node 2, node_value 0 (leaf 8 7)) ∷ (node 3, node_value 0 (leaf 15 7)) ∷ []))
      ≡ gives ((1, 0, []), (node 0, node_value 1 ((0, 1) ∷ (8, 2) ∷ [])) ∷ (node 2, node_value 0 (leaf 8 8 ++ leaf 17 5)) ∷ (node 3, free) ∷ (flag 3, taken false) ∷ [])
  -- INNER NEIGHBOURS, after two leaves have merged: the right neighbour has 8 keys: its first child moves over, and its first key to the root
  pub inner_moved_left : comes_to (delete 1) (inners 8 9)
      ≡ gives (
        (1, 0, []),
        (node 0, node_value 2 ((0, 3) ∷ (1010, 4) ∷ [])) ∷ (node 4, node_value 1 (tens 1010 41 8)) ∷ (node 3, node_value 1 ((0, 20) ∷ tens 20 22 6 ++ (1000, 40) ∷ []))
            ∷ (node 20, node_value 0 (leaf 2 6 ++ leaf 10 7)) ∷ (node 21, free) ∷ (flag 21, taken false) ∷ [],
      )
  -- the left neighbour has 8 keys: its last child moves over, and its last key to the root
  pub inner_moved_right : comes_to (delete 1070) (inners 9 8)
      ≡ gives (
        (1, 0, []),
        (node 0, node_value 2 ((0, 3) ∷ (80, 4) ∷ [])) ∷ (node 4, node_value 1 ((80, 28) ∷ tens 1000 40 7)) ∷ (node 3, node_value 1 (tens 0 20 8))
            ∷ (node 46, node_value 0 (leaf 1061 7 ++ leaf 1071 6)) ∷ (node 47, free) ∷ (flag 47, taken false) ∷ [],
      )
  -- both have 7: they merge, and the root, left with no key, takes over; 15 children, 14 keys
  pub inner_collapse : comes_to (delete 1070) (inners 8 8)
      ≡ gives (
        (1, 0, []),
        (node 0, node_value 1 (tens 0 20 8 ++ tens 1000 40 7)) ∷ (node 3, free) ∷ (flag 3, taken false) ∷ (node 4, free) ∷ (flag 4, taken false)
            ∷ (node 46, node_value 0 (leaf 1061 7 ++ leaf 1071 6)) ∷ (node 47, free) ∷ (flag 47, taken false) ∷ [],
      )
  -- LOOKING: found; across leaves
  pub found : comes_to (lookup 9) (pair 7 8 8) ≡ gives ((1, 9, []), [])
  pub next_leaf : comes_to (next 7) (pair 7 8 8) ≡ gives ((1, 8, []), [])
  pub previous_leaf : comes_to (previous 8) (pair 7 8 8) ≡ gives ((1, 7, []), [])
  -- the nearest branch on that side leads to a leaf that has none either: again the nearest branch, which is further up
  pub next_again : (comes_to (next 66) torn ≡ gives ((1, 1001, []), []))
      × (asked (next 66) torn ≡ object meta ∷ object (node 0) ∷ object (node 3) ∷ object (node 26) ∷ object (node 27) ∷ object (node 4) ∷ object (node 40) ∷ [])
  -- LISTS: the given key itself, and on across leaves; fewer where there are no more; no further leaf is read once there are enough
  pub listed_across : comes_to (list 6 4) (pair 7 8 8) ≡ gives ((4, 0, (6, 6) ∷ (7, 7) ∷ (8, 8) ∷ (9, 9) ∷ []), [])
  pub listed_fewer : comes_to (list 14 9) (pair 7 8 8) ≡ gives ((2, 0, (14, 14) ∷ (15, 15) ∷ []), [])
  pub listed_none : comes_to (list 16 1) (pair 7 8 8) ≡ gives ((0, 0, []), [])
  pub listed_enough : (asked (list 1 7) (pair 7 8 8) ≡ object meta ∷ object (node 0) ∷ object (node 1) ∷ [])
      × (asked (list 1 8) (pair 7 8 8) ≡ object meta ∷ object (node 0) ∷ object (node 1) ∷ object (node 2) ∷ [])
  -- MIGRATION to server 1, there to the first free slot above the node's slot number: of a leaf, an inner node, the root; one that is there, and a free one
  pub leaf_moves : comes_to (migrate 2 1) (pair 7 8 8)
      ≡ gives ((1, 1027, []), (node 0, node_value 1 ((0, 1) ∷ (8, 1027) ∷ [])) ∷ (node 1027, node_value 0 (leaf 8 8)) ∷ (node 2, free) ∷ (flag 2, taken false) ∷ (flag 1027, taken true) ∷ [])
  pub leaf_moves_asks : asked (migrate 2 1) (pair 7 8 8)
      ≡ object meta ∷ object (node 2) ∷ object (node 0) ∷ object meta ∷ vector 1 ∷ object (flag 1027) ∷ object (node 1027) ∷ object (flag 2) ∷ []
  pub inner_moves : comes_to (migrate 3 1) (inners 8 8)
      ≡ gives ((1, 1028, []), (node 0, node_value 2 ((0, 1028) ∷ (1000, 4) ∷ [])) ∷ (node 1028, node_value 1 (tens 0 20 8)) ∷ (node 3, free) ∷ (flag 3, taken false) ∷ (flag 1028, taken true) ∷ [])
  pub root_moves : comes_to (migrate 0 1) (pair 7 8 8)
      ≡ gives ((1, 1025, []), (node 1025, node_value 1 ((0, 1) ∷ (8, 2) ∷ [])) ∷ (node 0, free) ∷ (flag 0, taken false) ∷ (meta, root 1025 two) ∷ (flag 1025, taken true) ∷ [])
  pub unmoved : (comes_to (migrate 2 0) (pair 7 8 8) ≡ gives ((0, 1, []), [])) × (comes_to (migrate 3 1) (pair 7 8 8) ≡ gives ((0, 0, []), []))
  -- "the first free slot above the split node's slot number, going round": on server 0 only slot 1 is free, below the split node's
  pub goes_round : asked (insert 22 22) (full_leaf ((true ∷ false ∷ replicate 14 true) ∷ first_taken 0 ∷ []))
      ≡ object meta ∷ object (node 0) ∷ object (node 2) ∷ object meta ∷ vector 0 ∷ object (flag 1) ∷ object (node 1) ∷ []
  -- PASSED OVER: server 0 has no free slot, so the new leaf goes to server 1; where neither has one, reason 5
  pub passed_over : asked (insert 22 22) (full_leaf (first_taken 16 ∷ first_taken 5 ∷ []))
      ≡ object meta ∷ object (node 0) ∷ object (node 2) ∷ object meta ∷ vector 0 ∷ fetched 0 ∷ vector 1 ∷ object (flag 1029) ∷ object (node 1029) ∷ []
  pub nowhere : comes_to (insert 22 22) (full_leaf (first_taken 16 ∷ first_taken 16 ∷ [])) ≡ fails no_slot
  -- CLOSING: server 0 takes no new node, so the new leaf goes to server 1; "a migration to a server not open, with 5 where its vector would be read"
  pub closed_over : asked (insert 22 22) (closing 0 (full_leaf (first_taken 5 ∷ first_taken 5 ∷ [])))
      ≡ object meta ∷ object (node 0) ∷ object (node 2) ∷ object meta ∷ vector 1 ∷ object (flag 1029) ∷ object (node 1029) ∷ []
  pub moves_nowhere : (comes_to (migrate 2 1) (closing 1 (pair 7 8 8)) ≡ fails no_slot)
      × (asked (migrate 2 1) (closing 1 (pair 7 8 8)) ≡ object meta ∷ object (node 2) ∷ object (node 0) ∷ object meta ∷ [])
  -- FAILING: a slot that the vector shows free and that is taken, reason 1; and what can't be one tree, reason 3: a child on the wrong level, a
  -- node that is its own neighbour, a node to be written whose keys don't rise
  pub taken_meanwhile : comes_to (insert 35 35) (small ((node 0, node_value 0 (leaf 21 14)) ∷ (flag 10, taken true) ∷ [])) ≡ fails not_free
  pub wrong_level : comes_to (lookup 3) (small ((node 0, node_value 2 ((0, 1) ∷ (8, 2) ∷ [])) ∷ (node 1, node_value 0 (leaf 1 7)) ∷ [])) ≡ fails no_tree
  pub own_neighbour : comes_to (delete 3) (small ((node 0, node_value 1 ((0, 1) ∷ (8, 1) ∷ [])) ∷ (node 1, node_value 0 (leaf 1 7)) ∷ [])) ≡ fails no_tree
  pub not_rising : comes_to (insert 9 9) (small ((node 0, node_value 0 ((5, 5) ∷ (3, 3) ∷ [])) ∷ [])) ≡ fails no_tree
