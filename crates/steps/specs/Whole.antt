-- The whole memory: "a 64-byte head holding the three sizes", then the servers' parts, then the clients' parts. "Memory is laid out for 8 servers".
use Rattle.std.specs.Prelude.{List, [], ◌∷◌, ℕ, ◌+◌, ◌*◌, ◌≤◌, get_or, drop}
use Rattle.layout.specs.Block.{Block, words, times, followed_by, end, size}
use Rattle.layout.specs.Space.{Coding}
use Rattle.nodes.specs.Bounds.{most_servers}
use Rattle.server.specs.declared.place.Place.{Place}
use Rattle.client.specs.Layout.{ClientWord, client_code, client_back, client_block}
use Rattle.steps.specs.declared.sizes.Sizes.{Sizes}
use Rattle.server.specs.Layout as Srv

-- "Servers 1 to 8, slots on each 1 to 1,024, clients 1 to 16."
pub record Allowed (z : Sizes) : Type 0 where
  pub servers : (1 ≤ z.servers) × (z.servers ≤ 8)
  pub slots : (1 ≤ z.slots) × (z.slots ≤ 1024)
  pub clients : (1 ≤ z.clients) × (z.clients ≤ 16)

-- a word of the memory: of the head, of a server's part, of a client's part
pub data Address : Type 0 where
  head : ℕ → Address
  server : ℕ → Place → Address
  client : ℕ → ClientWord → Address

-- a head of 8 words, the parts of 8 servers, the clients' parts
abbrev pub block : Sizes → Block
block z = followed_by (words 8) (followed_by (times most_servers (Srv.server_block z.slots)) (followed_by (times z.clients client_block) end))

-- where in the block each word of the memory stands
abbrev pub code : Address → List ℕ
code (head i) = 0 ∷ i ∷ []
code (server s a) = 1 ∷ s ∷ Srv.place_code a
code (client c a) = 2 ∷ c ∷ client_code a

-- which word stands there; of a list that is none of these it is not asked
abbrev pub back : List ℕ → Address
back p = let x = get_or p 1 0 in get_or (head x ∷ server x (Srv.place_back (drop 2 p)) ∷ client x (client_back (drop 2 p)) ∷ []) (get_or p 0 0) (head x)

-- the words of the memory as addresses
abbrev pub whole : Coding Address
whole = record { code = code; back = back }

-- "the length that given sizes call for", in words
unfoldable pub words_for : Sizes → ℕ
words_for z = size (block z)

-- the same in bytes
unfoldable pub length_for : Sizes → ℕ
length_for z = 8 * words_for z

-- the word at which a server's part begins, and a client's
unfoldable pub server_at : Sizes → ℕ → ℕ
server_at z s = 8 + s * size (Srv.server_block z.slots)

unfoldable pub client_at : Sizes → ℕ → ℕ
client_at z c = 8 + most_servers * size (Srv.server_block z.slots) + c * size client_block
