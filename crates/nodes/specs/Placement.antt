-- "Placement: a new node looks on servers in the order s xor 0, s xor 1, .. s xor 7, where s is the home of the node
-- being split; these 8 rows of 8 are a constant table"
use Rattle.std.specs.Prelude.{List, [], ◌∷◌, ℕ, get_or}

-- "these 8 rows of 8 are a constant table": row s is s xor 0, s xor 1, .. s xor 7
abbrev pub rows : List (List ℕ)
rows =
    (0 ∷ 1 ∷ 2 ∷ 3 ∷ 4 ∷ 5 ∷ 6 ∷ 7 ∷ [])
    ∷ (1 ∷ 0 ∷ 3 ∷ 2 ∷ 5 ∷ 4 ∷ 7 ∷ 6 ∷ [])
    ∷ (2 ∷ 3 ∷ 0 ∷ 1 ∷ 6 ∷ 7 ∷ 4 ∷ 5 ∷ [])
    ∷ (3 ∷ 2 ∷ 1 ∷ 0 ∷ 7 ∷ 6 ∷ 5 ∷ 4 ∷ [])
    ∷ (4 ∷ 5 ∷ 6 ∷ 7 ∷ 0 ∷ 1 ∷ 2 ∷ 3 ∷ [])
    ∷ (5 ∷ 4 ∷ 7 ∷ 6 ∷ 1 ∷ 0 ∷ 3 ∷ 2 ∷ [])
    ∷ (6 ∷ 7 ∷ 4 ∷ 5 ∷ 2 ∷ 3 ∷ 0 ∷ 1 ∷ [])
    ∷ (7 ∷ 6 ∷ 5 ∷ 4 ∷ 3 ∷ 2 ∷ 1 ∷ 0 ∷ [])
    ∷ []

-- the servers in the order in which a node of server s looks for a slot; s is a server of the store, so [] is not reached
abbrev pub row : ℕ → List ℕ
row s = get_or rows s []
