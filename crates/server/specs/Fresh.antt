-- A newly opened server: "A new store has the root, an empty leaf, in node 0; all versions are 0."
use Rattle.std.specs.Prelude.{cond, List, [], ◌∷◌, ℕ, eqb}
use Rattle.layout.specs.Space.{Put, put}
use Rattle.server.specs.declared.place.Place.{Place}
use Rattle.server.specs.declared.place.Place.TheVariants.{States, Vector, Node}
use Rattle.nodes.specs.States.{first_states}

-- the stores of the first leaf, at server 0: its kind, and its flag
unfoldable pub first_leaf : ℕ → List (Put Place)
first_leaf s = cond (eqb s 0) (put (Node 0 0) 1 ∷ put (Vector 0) 1 ∷ []) []

-- those of server s, of which the first n are open: every server has the metadata, absent ones too
unfoldable pub fresh_stores : ℕ → ℕ → List (Put Place)
fresh_stores n s = put States (first_states n) ∷ first_leaf s
