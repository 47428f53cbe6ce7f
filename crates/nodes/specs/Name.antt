-- "A node name is server times 1,024 plus slot."
use Rattle.std.specs.Prelude.{Bool, ◌&&◌, ℕ, ◌+◌, ◌*◌, ◌/◌, ◌%◌, ltb}
use Rattle.nodes.specs.Bounds.{most_servers}

-- the name of a slot on a server
abbrev pub name : ℕ → ℕ → ℕ
name server slot = server * 1024 + slot

-- the home server of the node of that name
abbrev pub server_of : ℕ → ℕ
server_of n = n / 1024

-- its slot there
abbrev pub slot_of : ℕ → ℕ
slot_of n = n % 1024

-- "a name with such a number", above 7, "or a slot past the size" is not in the store; of absent servers names are
unfoldable pub name_in_store : ℕ → ℕ → Bool
name_in_store slots n = ltb (server_of n) most_servers && ltb (slot_of n) slots
