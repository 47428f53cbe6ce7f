-- "The tree is read from the memory ..: the leaves' pairs, left to right, under the root that all servers' metadata then name."
-- So the map is a function of the snapshot.
use Rattle.std.specs.Prelude.{List, [], ◌∷◌, ◌++◌, ℕ, zero, suc, ◌+◌}
use Rattle.operations.specs.Object.{Obj, meta, node, Val, keys_in, level_of, slots_in, root_of}
use Rattle.operations.specs.Map.{Map}
use Rattle.operations.specs.Entry.{zip}

-- the pairs f of each child, left to right
abbrev pub all_pairs : (ℕ → Map) → List ℕ → Map
all_pairs f [] = []
all_pairs f (v ∷ vs) = f v ++ all_pairs f vs

-- the pairs below the node n of level l
abbrev pub pairs_below : ℕ → (ℕ → Val) → ℕ → Map
pairs_below zero N n = zip (keys_in (N n)) (slots_in (N n))
pairs_below (suc l) N n = all_pairs (pairs_below l N) (slots_in (N n))

abbrev pub map_of : (Obj → Val) → Map
map_of M = pairs_below (level_of (M (node (root_of (M meta))))) (λ n. M (node n)) (root_of (M meta))
