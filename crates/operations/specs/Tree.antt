-- What it means that a snapshot holds a B-tree of a map.
use Rattle.std.specs.Prelude.{◌≡◌, true, false, Bool, List, [], ◌∷◌, ◌⊎◌, ℕ, zero, suc, ◌+◌, ◌<◌, ◌≤◌, length, get_or}
use Rattle.operations.specs.Object.{Obj, meta, node, flag, Val, root, taken, free, states_of, is_taken}
use Rattle.operations.specs.Map.{Map, two_to_64}
use Rattle.operations.specs.Entry.{node_value, fewest_entries, most_entries, first_key_or}
use Rattle.operations.specs.Chain.{one, Chain, tally, gather, ren}
use Rattle.nodes.specs.Name.{name}

-- names are below this: 8 servers with 1,024 slots
unfoldable pub room : ℕ
room = 8192

-- A TREE: what an entry of level l holds is a value, or a node's name and its entries
abbrev pub Slot : ℕ → Type 0
Slot zero = ℕ
Slot (suc l) = ℕ × List (ℕ × Slot l)

-- what the node stores of it
abbrev pub word : (l : ℕ) → Slot l → ℕ
word zero v = v
word (suc l) s = s.0

-- how often a name occurs
abbrev pub cnt : (l : ℕ) → Slot l → ℕ → ℕ
cnt zero v x = 0
cnt (suc l) s x = one s.0 x + tally (cnt l) s.1 x

-- "the leaves' pairs, left to right"
abbrev pub pairs : (l : ℕ) → ℕ → Slot l → Map
pairs zero k v = (k, v) ∷ []
pairs (suc l) k s = gather (pairs l) s.1

-- a node that holds keys from k on: the first key of a leaf is not below k; for the first child of an inner node k stands itself
abbrev pub Starts : ℕ → ℕ → ℕ → Type 0
Starts zero k x = k ≤ x
Starts (suc l) k x = x ≡ k

-- A node other than the root, of level l, that holds keys from k up to, not including, b. P says the same of its children.
pub record Kid (N : ℕ → Val) (l : ℕ) (P : ℕ → ℕ → Slot l → Type 0) (k b : ℕ) (s : Slot (suc l)) : Type 0 where
  -- it is stored: its level is one lower than its parent's
  pub at : N s.0 ≡ node_value l (ren (word l) s.1)
  -- "A node other than the root has at least 7 keys", "at most 14 keys"
  pub least : fewest_entries l ≤ length s.1
  pub most : length s.1 ≤ most_entries l
  -- "in strictly rising order"; "Child i holds the keys from key i up to, not including, key i+1"
  pub from : Starts l k (first_key_or s.1 b)
  pub rise : k < b
  pub segs : Chain P b s.1

-- an entry with the key k, where the next entry's key is b: a pair, or a child
abbrev pub Entry : (ℕ → Val) → (l : ℕ) → ℕ → ℕ → Slot l → Type 0
Entry N zero k b v = k < b
Entry N (suc l) k b s = Kid N l (Entry N l) k b s

-- the fewest entries of a root: a leaf may be empty, "an inner root 1" key and so two children
abbrev pub bottom : ℕ → ℕ
bottom zero = 0
bottom (suc l) = 2

-- flag and node of a slot whose name occurs n times in the tree: once, and it is taken; or never, and it is free
abbrev pub Mark : Val → Val → ℕ → Type 0
Mark f v n = ((n ≡ 1) × (f ≡ taken true)) ⊎ ((n ≡ 0) × (f ≡ taken false) × (v ≡ free))

-- THE SNAPSHOT HOLDS A B-TREE OF THE MAP m
pub record HoldsTree (M : Obj → Val) (m : Map) : Type 0 where
  pub level : ℕ
  pub name : ℕ
  pub ents : List (ℕ × Slot level)
  -- the metadata names the root, whose level is at most 4; the servers' states are any
  pub root_is : M meta ≡ root name (states_of (M meta))
  pub low : level ≤ 4
  -- the root is stored, with at most 14 keys, and at least 1 if it is inner
  pub stored : M (node name) ≡ node_value level (ren (word level) ents)
  pub least : bottom level ≤ length ents
  pub most : length ents ≤ most_entries level
  -- it holds the keys from 0 up to 2^64, and so on down
  pub from : Starts level 0 (first_key_or ents two_to_64)
  pub segs : Chain (Entry (λ n. M (node n)) level) two_to_64 ents
  -- flags are taken exactly for the tree's nodes, which are different ones; all other nodes are free; names are below 8,192
  pub marks : (x : ℕ) → Mark (M (flag x)) (M (node x)) (one name x + tally (cnt level) ents x)
  pub inside : (x : ℕ) → room ≤ x → M (flag x) ≡ taken false
  -- the map is the leaves' pairs, left to right
  pub pairs_are : gather (pairs level) ents ≡ m

-- VECTORS THAT SHOW THE FLAGS of a snapshot
abbrev pub TrueOf : (Obj → Val) → ℕ → List Bool → Type 0
TrueOf U s fs = (i : ℕ) → i < 1024 → i < length fs → get_or fs i true ≡ is_taken (U (flag (name s i)))
