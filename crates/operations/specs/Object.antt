-- What operations read and write, why a plan fails, and a snapshot with some writes.
use Rattle.std.specs.Prelude.{Bool, true, false, cond, List, [], ◌∷◌, ℕ}
use mathlib.Core.HLevel.{Discrete}
use Rattle.std.proofs.Math.Decide.{ℕ_discrete}
use Rattle.base.specs.Test.{yes?}

-- "Objects are the metadata, nodes and flags"
pub data Obj : Type 0 where
  meta : Obj
  node : ℕ → Obj
  flag : ℕ → Obj
  deriving Discrete as ObjBy

-- What a plan asks for: an object; a server's vector; or the same vector, but only one that this transaction has fetched
-- ("a server is passed over only by a vector that this transaction fetched").
pub data Ask : Type 0 where
  object : Obj → Ask
  vector : ℕ → Ask
  fetched : ℕ → Ask

-- The root's name and the servers' states; a node's kind (0 free, 1 leaf, 2 inner), level, keys, and its values or children; a taken flag; a vector.
pub data Val : Type 0 where
  root : (name states : ℕ) → Val
  body : (kind level : ℕ) (keys slots : List ℕ) → Val
  taken : Bool → Val
  flags : List Bool → Val
  deriving Discrete as ValBy

-- "Freed nodes become kind 0 and keep only a version."
abbrev pub free : Val
free = body 0 0 [] []

-- a node's keys; metadata and flags have none, so they rise where all that is written is looked at (`fits?`)
abbrev pub keys_in : Val → List ℕ
keys_in (root r st) = []
keys_in (body k l ks vs) = ks
keys_in (taken b) = []
keys_in (flags fs) = []

-- a node's level; metadata and flags have 0, which `fits?` lets pass
abbrev pub level_of : Val → ℕ
level_of (root r st) = 0
level_of (body k l ks vs) = l
level_of (taken b) = 0
level_of (flags fs) = 0

-- a node's values or children; asked of nodes only
abbrev pub slots_in : Val → List ℕ
slots_in (root r st) = []
slots_in (body k l ks vs) = vs
slots_in (taken b) = []
slots_in (flags fs) = []

-- the metadata's root; asked of the metadata only
abbrev pub root_of : Val → ℕ
root_of (root r st) = r
root_of (body k l ks vs) = 0
root_of (taken b) = 0
root_of (flags fs) = 0

-- the servers' states in the metadata; asked of the metadata only
abbrev pub states_of : Val → ℕ
states_of (root r st) = st
states_of (body k l ks vs) = 0
states_of (taken b) = 0
states_of (flags fs) = 0

-- is a flag taken; asked of flags only
abbrev pub is_taken : Val → Bool
is_taken (root r st) = false
is_taken (body k l ks vs) = false
is_taken (taken b) = b
is_taken (flags fs) = false

-- a vector's flags; asked of vectors only
abbrev pub flags_of : Val → List Bool
flags_of (root r st) = []
flags_of (body k l ks vs) = []
flags_of (taken b) = []
flags_of (flags fs) = fs

-- "a slot taken as free isn't"; "what was read can't be one tree"; "no slot is free"
pub data Why : Type 0 where
  not_free : Why
  no_tree : Why
  no_slot : Why

-- the abort reasons' numbers
abbrev pub reason : Why → ℕ
reason not_free = 1
reason no_tree = 3
reason no_slot = 5

-- an answer is a and b, and of a list the pairs that it writes to the lent output
abbrev pub Ans : Type 0
Ans = ℕ × ℕ × List (ℕ × ℕ)

-- what an operation writes, the last first
abbrev pub Writes : Type 0
Writes = List (Obj × Val)

-- is the written object the object x?
abbrev pub hit : Obj → Obj → Bool
hit meta meta = true
hit meta (node x) = false
hit meta (flag x) = false
hit (node n) meta = false
hit (node n) (node x) = yes? (ℕ_discrete x n)
hit (node n) (flag x) = false
hit (flag n) meta = false
hit (flag n) (node x) = false
hit (flag n) (flag x) = yes? (ℕ_discrete x n)

-- the snapshot U with the value v at o
abbrev pub with_value : Obj → Val → (Obj → Val) → Obj → Val
with_value o v U x = cond (hit o x) v (U x)

-- the snapshot with the writes
abbrev pub over : Writes → (Obj → Val) → Obj → Val
over [] M = M
over (e ∷ w) M = with_value e.0 e.1 (over w M)

-- what the writes leave at the object o; asked of objects that they write (`all_fit?`), so root 0 0 is not reached
abbrev pub written_value : Writes → Obj → Val
written_value [] o = root 0 0
written_value (e ∷ w) o = cond (hit e.0 o) e.1 (written_value w o)

-- a snapshot's objects
abbrev pub objects : (Ask → Val) → Obj → Val
objects S o = S (object o)
