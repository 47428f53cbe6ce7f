-- Reason 3 over the lent list: "a node with keys that don't rise or a level above 4 would be written". Each object is written once
-- there, with what all the writes together leave at it.
use Rattle.std.specs.Prelude.{Bool, true, ◌&&◌, List, [], ◌∷◌, leb}
use Rattle.nodes.specs.declared.node.Node.{Node}
use Rattle.nodes.specs.Place.{rises}
use Rattle.nodes.specs.Node.{keys_of}
use Rattle.client.specs.Lent.{Entry}
use Rattle.client.specs.Bounds.{highest_level}

-- may this record be written?
unfoldable pub record_fits : Node → Bool
record_fits r = rises (keys_of r) && leb r.level highest_level

unfoldable pub entries_fit : List Entry → Bool
entries_fit [] = true
entries_fit (e ∷ l) = record_fits e.1 && entries_fit l
