-- The sorted map and the operations on it: "The map is pairs by rising key."
use Rattle.std.specs.Prelude.{Bool, true, false, List, [], ◌∷◌, ℕ, ◌^◌, length, take}
use Rattle.std.proofs.Math.Option.{Option, none, some}
use Rattle.std.proofs.Math.Decide.{ℕ_discrete, dec_lt, dec_le}
use Rattle.base.specs.Test.{ifd}
use Rattle.nodes.specs.Vector.{or_else}
use Rattle.operations.specs.Object.{Ans}

-- "The map is pairs by rising key."
abbrev pub Map : Type 0
Map = List (ℕ × ℕ)

-- "Keys and values are any unsigned 64-bit numbers": keys are below this
unfoldable pub two_to_64 : ℕ
two_to_64 = 2 ^ 64

-- "op 1 insert, 2 lookup, 3 delete, 4 next key above, 5 previous key below, 6 migrate (key is the node name)"; "operation 7: up to a given count of
-- pairs (the value field, 1 to 32), from the given key upward"
pub data Op : Type 0 where
  insert : (key value : ℕ) → Op
  lookup : (key : ℕ) → Op
  delete : (key : ℕ) → Op
  next : (key : ℕ) → Op
  previous : (key : ℕ) → Op
  migrate : (name server : ℕ) → Op
  list : (key count : ℕ) → Op

-- the value of a key, if it is there
abbrev pub look : ℕ → Map → Option ℕ
look k [] = none
look k (e ∷ m) = ifd (ℕ_discrete e.0 k) (some e.1) (look k m)

-- "Insert sets the key's value"
abbrev pub set_key : ℕ → ℕ → Map → Map
set_key k v [] = (k, v) ∷ []
set_key k v (e ∷ m) = ifd (dec_lt e.0 k) (e ∷ set_key k v m) (ifd (ℕ_discrete e.0 k) ((k, v) ∷ m) ((k, v) ∷ e ∷ m))

-- "Delete removes the key"
abbrev pub remove_key : ℕ → Map → Map
remove_key k [] = []
remove_key k (e ∷ m) = ifd (ℕ_discrete e.0 k) m (e ∷ remove_key k m)

-- "the nearest key strictly above or below, if any"
abbrev pub above : ℕ → Map → Option ℕ
above k [] = none
above k (e ∷ m) = ifd (dec_lt k e.0) (some e.0) (above k m)

-- the nearest key strictly below, if any
abbrev pub below : ℕ → Map → Option ℕ
below k [] = none
below k (e ∷ m) = or_else (below k m) (ifd (dec_lt e.0 k) (some e.0) none)

-- the pairs "from the given key upward"
abbrev pub upward : ℕ → Map → Map
upward k [] = []
upward k (e ∷ m) = ifd (dec_le k e.0) (e ∷ upward k m) (upward k m)

-- of lookup, next and previous: a is 1 and b what there is, if any. "Each a or b not given here is 0."
abbrev pub said : Option ℕ → Ans
said none = (0, 0, [])
said (some v) = (1, v, [])

-- of insert: "a is 1 if it was absent"
abbrev pub fresh : Option ℕ → Ans
fresh none = (1, 0, [])
fresh (some v) = (0, 0, [])

-- of delete: "a is 1 if it was there"
abbrev pub gone : Option ℕ → Ans
gone none = (0, 0, [])
gone (some v) = (1, 0, [])

-- of list: "a is the number of pairs"
abbrev pub listed : Map → Ans
listed ps = (length ps, 0, ps)

-- the answer that the map gives
abbrev pub answer : Op → Map → Ans
answer (insert k v) m = fresh (look k m)
answer (lookup k) m = said (look k m)
answer (delete k) m = gone (look k m)
answer (next k) m = said (above k m)
answer (previous k) m = said (below k m)
answer (migrate n s) m = (0, 0, [])
answer (list k n) m = listed (take n (upward k m))

-- "Migrate changes nothing, and its answer isn't compared."
abbrev pub compared : Op → Bool
compared (insert k v) = true
compared (lookup k) = true
compared (delete k) = true
compared (next k) = true
compared (previous k) = true
compared (migrate n s) = false
compared (list k n) = true

-- the map after the operation
abbrev pub map_after : Op → Map → Map
map_after (insert k v) m = set_key k v m
map_after (lookup k) m = m
map_after (delete k) m = remove_key k m
map_after (next k) m = m
map_after (previous k) m = m
map_after (migrate n s) m = m
map_after (list k n) m = m
