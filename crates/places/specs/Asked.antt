-- What the benchmark asks of a node.
use Rattle.std.specs.Prelude.{ℕ, ◌+◌, ◌*◌, List, cond, ltb}
use Rattle.base.specs.Test.{one_if}
use Rattle.nodes.specs.declared.standing.KeyPlace.{KeyPlace}
use Rattle.nodes.specs.Bounds.{most_keys}
use Rattle.nodes.specs.Node.{keys_of}
use Rattle.nodes.specs.Place.{key_place}
use Rattle.nodes.specs.Stored.{node_at}

-- a place and its yes or no as one number: twice the place, and 1 more for yes
unfoldable pub numbered : KeyPlace → ℕ
numbered p = 2 * p.place + one_if p.there

-- the place of a key in the node that these words are, or 0 where its count is out of range
unfoldable pub asked : List ℕ → ℕ → ℕ
asked w key = cond (ltb most_keys (node_at w 0).count) 0 (numbered (key_place (keys_of (node_at w 0)) key))
