-- The layout of a server's part, for n slots: four words of metadata, sixteen of the vector, and a row of fifty words for
-- each slot number. A row has the node in this server's slot, the lock of its flag, and for each of eight servers the
-- version and the lock of that server's node with this slot number.
use Rattle.std.specs.Prelude.{◌≡◌, refl, List, [], ◌∷◌, ℕ, ◌<◌, get_or}
use Rattle.layout.specs.Block.{Block, words, times, followed_by, end, size}
use Rattle.layout.specs.Space.{Coding, Put, put, at}
use Rattle.server.specs.declared.place.Place.{Place}
use Rattle.server.specs.declared.place.Place.TheVariants.{Root, Version, States, MetadataLock, Vector, Node, FlagLock, Table, NodeLock}
use Rattle.memory.specs.Word.{view}
use Rattle.layout.specs.Step.{Does, silent}

-- the row of a slot number: the node in this slot, the lock of its flag, and for each of 8 servers a table version and a node lock
abbrev pub slot_row : Block
slot_row = followed_by (words 33) (followed_by (words 1) (followed_by (words 8) (followed_by (words 8) end)))

-- a server's part for n slots: root, version, states and lock of the metadata; the vector; a row for each slot number
abbrev pub server_block : ℕ → Block
server_block n = followed_by (words 4) (followed_by (words 16) (followed_by (times n slot_row) end))

-- where in the block each word of the part stands
abbrev pub place_code : Place → List ℕ
place_code Root = 0 ∷ 0 ∷ []
place_code Version = 0 ∷ 1 ∷ []
place_code States = 0 ∷ 2 ∷ []
place_code MetadataLock = 0 ∷ 3 ∷ []
place_code (Vector i) = 1 ∷ i ∷ []
place_code (Node k j) = 2 ∷ k ∷ 0 ∷ j ∷ []
place_code (FlagLock k) = 2 ∷ k ∷ 1 ∷ 0 ∷ []
place_code (Table s k) = 2 ∷ k ∷ 2 ∷ s ∷ []
place_code (NodeLock s k) = 2 ∷ k ∷ 3 ∷ s ∷ []

-- which word stands there; of a list that is none of these it is not asked
abbrev pub place_back : List ℕ → Place
place_back p =
    let x = get_or p 1 0 in
    let y = get_or p 3 0 in
    get_or
    (get_or (Root ∷ Version ∷ States ∷ MetadataLock ∷ []) x Root
    ∷ Vector x
    ∷ get_or (Node x y ∷ FlagLock x ∷ Table y x ∷ NodeLock y x ∷ []) (get_or p 2 0) Root
    ∷ [])
    (get_or p 0 0)
    Root

-- each word is had back
pub place_again : (a : Place) → place_back (place_code a) ≡ a
place_again Root = refl
place_again Version = refl
place_again States = refl
place_again MetadataLock = refl
place_again (Vector i) = refl
place_again (Node k j) = refl
place_again (FlagLock k) = refl
place_again (Table s k) = refl
place_again (NodeLock s k) = refl

-- the words of a server's part as addresses
abbrev pub places : Coding Place
places = record { code = place_code; back = place_back }

-- how many words a server's part has
unfoldable pub part_words : ℕ → ℕ
part_words n = size (server_block n)

-- the most that it has, with 1,024 slots
abbrev pub most_part_words : ℕ
most_part_words = 51220

-- the store of one word
unfoldable pub put_step : Place → ℕ → (Place → ℕ) → List (Put Place)
put_step a v m = put a v ∷ []

-- a place lies at word i, in the part
pub record Lies (n : ℕ) (a : Place) (i : ℕ) : Type 0 where
  pub spot : i ≡ at places (server_block n) a
  pub within : i < part_words n

-- code with the bytes b of a part before and b' after has made these stores
abbrev pub ServerDone : ℕ → ((Place → ℕ) → List (Put Place)) → List ℕ → List ℕ → Type 0
ServerDone n g b b' = Does places (server_block n) g silent (view b) 0 (view b')
