-- The places that are stored to are there.
use Rattle.std.specs.Prelude.{◌≡◌, ℕ, ◌<◌}
use Rattle.layout.specs.Block.{In}
use Rattle.layout.specs.Space.{Valid}
use Rattle.nodes.specs.Name.{server_of, slot_of}
use Rattle.nodes.specs.declared.name.Name.{Name}
use Rattle.server.specs.declared.place.Place.TheVariants.{Table, Node}
use Rattle.server.specs.Layout.{places, server_block}
use Rattle.server.specs.Object.{lock_of, Has}
use Rattle.nodes.specs.declared.object.Object.TheVariants as object

-- ---- where they are stored
pub slot_there : (n k : ℕ) (x : Name) → Has n (object.Node x) → k ≡ slot_of x.number → k < n
unfolding lock_of Valid In
slot_there n k x h e = rw e h.0

pub table_there : (n : ℕ) (x : Name) → Has n (object.Node x) → Valid places (server_block n) (Table (server_of x.number) (slot_of x.number))
unfolding lock_of Valid In
table_there n x ok = ok
