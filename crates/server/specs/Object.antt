-- The places of the locks of objects.
use Rattle.std.specs.Prelude.{ℕ}
use Rattle.layout.specs.Space.{Valid}
use Rattle.nodes.specs.Name.{server_of, slot_of}
use Rattle.nodes.specs.declared.object.Object.{Object}
use Rattle.nodes.specs.declared.object.Object.TheVariants.{Metadata, Node, Flag}
use Rattle.server.specs.declared.place.Place.{Place}
use Rattle.server.specs.declared.place.Place.TheVariants.{MetadataLock, FlagLock, NodeLock}
use Rattle.server.specs.Layout.{places, server_block}

-- an object has one lock at a server; a node and its table entry share it
unfoldable pub lock_of : Object → Place
lock_of Metadata = MetadataLock
lock_of (Node x) = NodeLock (server_of x.number) (slot_of x.number)
lock_of (Flag x) = FlagLock (slot_of x.number)

-- the object is one of a store with n slots
abbrev pub Has : ℕ → Object → Type 0
Has n o = Valid places (server_block n) (lock_of o)
