-- What a server stores, as lists of stores in order.
use Rattle.std.specs.Prelude.{Bool, cond, List, [], ◌∷◌, ◌++◌, ℕ, zero, suc, ◌/◌, ◌%◌, eqb}
use Rattle.memory.specs.Bit.{put_bit}
use Rattle.layout.specs.Space.{Put, put, puts}
use Rattle.nodes.specs.Bounds.{most_servers}
use Rattle.nodes.specs.Name.{server_of, slot_of}
use Rattle.nodes.specs.declared.name.Name.{Name}
use Rattle.nodes.specs.Node.{free_node}
use Rattle.nodes.specs.Stored.{words_of}
use Rattle.nodes.specs.declared.object.Object.{Object}
use Rattle.server.specs.declared.place.Place.{Place}
use Rattle.server.specs.declared.place.Place.TheVariants.{Root, Version, States, Vector, Table, Node}
use Rattle.server.specs.Layout.{places}
use Rattle.server.specs.Object.{lock_of}
use Rattle.server.specs.Lock.{locked, unlocked}
use Rattle.nodes.specs.declared.node.Node as node

-- "Prepare checks and locks"
unfoldable pub lock_step : Object → Bool → ℕ → (Place → ℕ) → List (Put Place)
lock_step o writing c m = put (lock_of o) (locked writing c (m (lock_of o))) ∷ []

-- "Apply writes and unlocks"
unfoldable pub unlock_step : Object → ℕ → (Place → ℕ) → List (Put Place)
unlock_step o c m = put (lock_of o) (unlocked c (m (lock_of o))) ∷ []

-- the metadata is written: "root name and its version", "each server's state"
unfoldable pub metadata_step : ℕ → ℕ → ℕ → (Place → ℕ) → List (Put Place)
metadata_step root states version m = put Root root ∷ put Version version ∷ put States states ∷ []

-- the flag of a slot of this server is written, taken or free
unfoldable pub flag_step : Name → Bool → (Place → ℕ) → List (Put Place)
flag_step x taken m =
    let a = Vector (slot_of x.number / 64) in
    put a (put_bit taken (m a) (slot_of x.number % 64)) ∷ []

-- "Freed nodes become kind 0 and keep only a version."
unfoldable pub kept_of : node.Node → ℕ → node.Node
kept_of n v =
    cond (eqb n.kind 0) (free_node v)
    (record { kind = n.kind; level = n.level; version = v; count = n.count; keys = n.keys; slots = n.slots })

-- the 33 words of node x at its home, nothing at another server
unfoldable pub home_step : ℕ → Name → node.Node → (Place → ℕ) → List (Put Place)
home_step s x n m = cond (eqb (server_of x.number) s) (puts places (Node (slot_of x.number)) (words_of n)) []

-- version v of node x in this server's table, if it is inner before or after
unfoldable pub table_step : Name → ℕ → Bool → (Place → ℕ) → List (Put Place)
table_step x v inner m = cond inner (put (Table (server_of x.number) (slot_of x.number)) v ∷ []) []

-- the table's versions v of the nodes with slot number k, of the first n servers
unfoldable pub versions_row : (ℕ → ℕ → ℕ) → ℕ → ℕ → List (Put Place)
versions_row v k zero = []
versions_row v k (suc n) = versions_row v k n ++ (put (Table n k) (v n k) ∷ [])

-- the version table of an added server, "slot by slot": the first n of them
unfoldable pub versions_step : (ℕ → ℕ → ℕ) → ℕ → List (Put Place)
versions_step v zero = []
versions_step v (suc n) = versions_step v n ++ versions_row v n most_servers

-- what server s stores of node x written with version v: "at home and, for a node inner before or after, in every table"
unfoldable pub node_step : ℕ → Name → node.Node → ℕ → Bool → (Place → ℕ) → List (Put Place)
node_step s x n v inner m = home_step s x (kept_of n v) m ++ table_step x v inner m
