-- The layout of a client's part, in words.
use Rattle.std.specs.Prelude.{◌≡◌, refl, List, [], ◌∷◌, ℕ, zero, suc, ◌≤◌, ◌/◌, length, get_or}
use Rattle.layout.specs.Block.{Block, words, times, followed_by, end}
use Rattle.layout.specs.Space.{Coding}
use Rattle.client.specs.declared.part.Set.{Set}
use Rattle.client.specs.declared.part.Set.TheVariants.{Reads, Writes, Copies}
use Rattle.nodes.specs.Bounds.{node_words}
use Rattle.client.specs.Bounds.{most_servers}

-- a word of a client's part; the read set, the write set and the copies of inner nodes have items of one form
pub data ClientWord : Type 0 where
  field : ℕ → ClientWord
  -- word j of item i of a set: 0 the object's number, then the record
  item : Set → ℕ → ℕ → ClientWord
  -- word j of the copy of a server's vector: 0 whether there is one, then its sixteen words
  vector_word : ℕ → ℕ → ClientWord

-- the fields: 0 no transaction, 1 open, 2 committing, 3 decided
abbrev pub phase : ClientWord
phase = field 0

-- the operation given and not yet answered: its number (0: none waits), key, value, server
abbrev pub op_number : ClientWord
op_number = field 1

-- its key; of a migrate the node's name
abbrev pub op_key : ClientWord
op_key = field 2

-- its value
abbrev pub op_value : ClientWord
op_value = field 3

-- its server
abbrev pub op_server : ClientWord
op_server = field 4

-- sets of servers, bit s for server s: participants, prepared, applied; and the vectors that this transaction has fetched
abbrev pub participants : ClientWord
participants = field 5

-- the servers that have prepared
abbrev pub prepared : ClientWord
prepared = field 6

-- the servers that have applied
abbrev pub applied : ClientWord
applied = field 7

-- the servers whose vector this transaction has fetched
abbrev pub fetched_vectors : ClientWord
fetched_vectors = field 8

-- 1 for a client lost after its decision
abbrev pub lost : ClientWord
lost = field 9

-- how many objects are read, and written
abbrev pub reads_count : ClientWord
reads_count = field 10

-- how many objects are written
abbrev pub writes_count : ClientWord
writes_count = field 11

-- the copy of the metadata: the servers' states (0: there is none), the root's name, the version
abbrev pub meta_states : ClientWord
meta_states = field 12

-- the root's name in it
abbrev pub meta_root : ClientWord
meta_root = field 13

-- the version in it
abbrev pub meta_version : ClientWord
meta_version = field 14

-- how many fields there are
abbrev pub field_count : ℕ
field_count = 15

-- where runs of fields begin: the waiting operation's
abbrev pub op_fields : ℕ
op_fields = 1

-- those that are 0 for a new transaction
abbrev pub course_fields : ℕ
course_fields = 5

-- those of the metadata's copy
abbrev pub meta_fields : ℕ
meta_fields = 12

-- the phases: "begin needs no transaction"
abbrev pub no_transaction : ℕ
no_transaction = 0

-- begun, and not yet committing
abbrev pub open_phase : ℕ
open_phase = 1

-- "after commit"
abbrev pub commit_phase : ℕ
commit_phase = 2

-- "after the decision"
abbrev pub decided_phase : ℕ
decided_phase = 3

-- "4 object 97 would be read or 49 written"; "64 inner nodes"
abbrev pub limit : Set → ℕ
limit Reads = 96
limit Writes = 48
limit Copies = 64

-- a record of a node's form has so many words
abbrev pub record_words : ℕ
record_words = node_words

-- an item of a set: the object's number, and its record
abbrev pub item_words : ℕ
item_words = 34

-- the copy of a vector: whether there is one, and its sixteen words
abbrev pub vector_words : ℕ
vector_words = 17

-- where a set begins
unfoldable pub base : Set → ℕ
base Reads = field_count
base Writes = 3279
base Copies = 4911

-- a set: the numbers of its objects side by side, so that a search reads few words, then their records
abbrev pub set_block : Set → Block
set_block s = followed_by (words (limit s)) (followed_by (times (limit s) (words record_words)) end)

-- 15 fields; the sets of 96 read, 48 written and 64 copied items; the copies of 8 vectors, of 17 words
abbrev pub client_block : Block
client_block =
    followed_by (words field_count)
    (followed_by (set_block Reads) (followed_by (set_block Writes) (followed_by (set_block Copies) (followed_by (times most_servers (words vector_words)) end))))

-- where in a set word j of item i stands
abbrev pub in_set : ℕ → ℕ → List ℕ
in_set i zero = 0 ∷ i ∷ []
in_set i (suc j) = 1 ∷ i ∷ j ∷ []

-- where in the block each word of the part stands
abbrev pub client_code : ClientWord → List ℕ
client_code (field i) = 0 ∷ i ∷ []
client_code (item Reads i j) = 1 ∷ in_set i j
client_code (item Writes i j) = 2 ∷ in_set i j
client_code (item Copies i j) = 3 ∷ in_set i j
client_code (vector_word s j) = 4 ∷ s ∷ j ∷ []

-- which word stands there; of a list that is none of these it is not asked
abbrev pub item_back : Set → List ℕ → ClientWord
item_back s p = let i = get_or p 2 0 in get_or (item s i 0 ∷ item s i (suc (get_or p 3 0)) ∷ []) (get_or p 1 0) (field i)

-- of a set, a field, or the copy of a vector
abbrev pub client_back : List ℕ → ClientWord
client_back p =
    let i = get_or p 1 0 in
    get_or (field i ∷ item_back Reads p ∷ item_back Writes p ∷ item_back Copies p ∷ vector_word i (get_or p 2 0) ∷ []) (get_or p 0 0) (field i)

-- each word is had back
pub client_again : (a : ClientWord) → client_back (client_code a) ≡ a
client_again (field i) = refl
client_again (item Reads i zero) = refl
client_again (item Reads i (suc j)) = refl
client_again (item Writes i zero) = refl
client_again (item Writes i (suc j)) = refl
client_again (item Copies i zero) = refl
client_again (item Copies i (suc j)) = refl
client_again (vector_word s j) = refl

-- the words of a client's part as addresses
abbrev pub client_words : Coding ClientWord
client_words = record { code = client_code; back = client_back }

-- how many words it has, for all sizes
abbrev pub client_length : ℕ
client_length = 7223

-- bytes with room for a client's part
abbrev pub ClientPart : List ℕ → Type 0
ClientPart b = client_length ≤ length b / 8
