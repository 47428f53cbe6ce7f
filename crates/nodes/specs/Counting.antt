-- The place of a key by counting: a 0 or 1 is added for each key, and no comparison is branched on.
use Rattle.std.specs.Prelude.{ℕ, ◌+◌, ◌≡◌, List, [], ◌∷◌, Bool, ◌&&◌, get_or, eqb, leb, ltb}
use Rattle.base.specs.Test.{one_if}
use Rattle.nodes.specs.declared.node.Node.{Node}
use Rattle.nodes.specs.declared.standing.KeyPlace.{KeyPlace}
use Rattle.nodes.specs.Node.{keys_of}
use Rattle.nodes.specs.Place.{key_place}

-- "adding a 0 or 1 for each key": to those counted so far, for the keys that are left
unfoldable pub added_up : ℕ → List ℕ → ℕ → ℕ
added_up p [] key = p
added_up p (x ∷ l) key = added_up (p + one_if (leb x key)) l key

-- the count, and behind it the keys, as a node's words have them: "Key positions count from 1", so at a position stands that key
unfoldable pub from_count : Node → List ℕ
from_count n = n.count ∷ n.keys

-- the yes or no at a place, by these words: at place 0 the count is looked at all the same, and says nothing
unfoldable pub yes_at : List ℕ → ℕ → ℕ → Bool
yes_at words key p = ltb 0 p && eqb (get_or words p 0) key

-- "The place of a key is to be worked out by adding a 0 or 1 for each key, with no branch in the source on the comparison."
unfoldable pub counted_place : Node → ℕ → KeyPlace
counted_place n key =
    let p = added_up 0 (keys_of n) key in
    record { place = p; there = yes_at (from_count n) key p }

-- "The place is shown to be the old one for every node and key": whatever its fields are, and whether its keys rise or not
abbrev pub TheOldPlace : Type 0
TheOldPlace = (n : Node) (key : ℕ) → counted_place n key ≡ key_place (keys_of n) key
