-- Nodes changed, leaves and inner nodes alike.
use Rattle.std.specs.Prelude.{◌≡◌, ℕ, ◌+◌, ◌-◌, ◌≤◌, ◌<◌, List, [], ◌∷◌, ◌++◌, length, take, drop, get_or, set}
use Rattle.nodes.specs.declared.node.Node.{Node}
use Rattle.nodes.specs.declared.change.Wide.{Wide}
use Rattle.nodes.specs.declared.change.Halves.{Halves}
use Rattle.nodes.specs.Lists.{pad, insert_at, remove_at}
use Rattle.nodes.specs.Node.{extra, keys_of, slots_of, made}

-- the wide node with these keys and slots
unfoldable pub wide : ℕ → ℕ → ℕ → List ℕ → List ℕ → Wide
wide kind level version ks ss =
    record { kind = kind; level = level; version = version; count = length ks; keys = pad 32 ks; slots = pad 32 ss }

unfoldable pub wide_keys : Wide → List ℕ
wide_keys w = take w.count w.keys

unfoldable pub wide_slots : Wide → List ℕ
wide_slots w = take (w.count + extra w.kind) w.slots

-- a key put in before key number i, with its slot: a leaf's value beside it, an inner node's child right of it
unfoldable pub put_in : Node → ℕ → ℕ → ℕ → Wide
put_in n i k s = wide n.kind n.level n.version (insert_at i k (keys_of n)) (insert_at (i + extra n.kind) s (slots_of n))

-- key number i taken out, with its slot
unfoldable pub without : Node → ℕ → Wide
without n i = wide n.kind n.level n.version (remove_at i (keys_of n)) (remove_at (i + extra n.kind) (slots_of n))

unfoldable pub take_out : Node → ℕ → Node
take_out n i = made n.kind n.level n.version (remove_at i (keys_of n)) (remove_at (i + extra n.kind) (slots_of n))

unfoldable pub with_version : Node → ℕ → Node
with_version n version = made n.kind n.level version (keys_of n) (slots_of n)

unfoldable pub with_key : Node → ℕ → ℕ → Node
with_key n i k = made n.kind n.level n.version (set (keys_of n) i k) (slots_of n)

unfoldable pub with_slot : Node → ℕ → ℕ → Node
with_slot n i s = made n.kind n.level n.version (keys_of n) (set (slots_of n) i s)

-- so many keys of a wide node from key number `from` on, with their slots
unfoldable pub part : Wide → ℕ → ℕ → ℕ → Node
part w from count version =
    made w.kind w.level version (take count (drop from w.keys)) (take (count + extra w.kind) (drop from w.slots))

-- a wide node that is not overfull
unfoldable pub narrow : Wide → Node
narrow w = made w.kind w.level w.version (wide_keys w) (wide_slots w)

-- a wide node cut before its key number i. This key is the separator, and an inner node's right half loses it.
unfoldable pub cut_at : Wide → ℕ → ℕ → Halves
cut_at w i version = record {
  left = made w.kind w.level w.version (take i (wide_keys w)) (take (i + extra w.kind) (wide_slots w));
  right = made w.kind w.level version (drop (i + extra w.kind) (wide_keys w)) (drop (i + extra w.kind) (wide_slots w));
  sep = get_or (wide_keys w) i 0;
}

-- "A leaf of 15 pairs splits into 7 and 8, and the first key of the right one goes up. An inner node of 15 keys splits into 7
-- and 7, the eighth going up."
unfoldable pub split : Wide → ℕ → Halves
split w version = cut_at w 7 version

-- the keys of two neighbours: in inner nodes "through the parent", with the separator between them
unfoldable pub joined_keys : Node → ℕ → Node → List ℕ
joined_keys a sep b = keys_of a ++ (take (extra a.kind) (sep ∷ []) ++ keys_of b)

unfoldable pub join : Node → ℕ → Node → Wide
join a sep b = wide a.kind a.level a.version (joined_keys a sep b) (slots_of a ++ slots_of b)

-- how many keys they have in one: theirs, and in an inner node the separator
abbrev pub JoinedCount : Node → Node → Wide → Type 0
JoinedCount l r w = (w.count ≡ l.count + extra w.kind + r.count) × (extra w.kind ≤ 1) × (extra w.kind ≡ extra l.kind)

-- "from 7 the two merge into the left one"
unfoldable pub merged : Node → ℕ → Node → Node
merged a sep b = narrow (join a sep b)

-- "From 8 or more keys one moves over, in inner nodes through the parent": from the right one, or from the left one
unfoldable pub from_right : Node → ℕ → Node → Halves
from_right a sep b = cut_at (join a sep b) (a.count + 1) b.version

unfoldable pub from_left : Node → ℕ → Node → Halves
from_left a sep b = cut_at (join a sep b) (a.count - 1) b.version

-- a wide node can be cut before its key number i into two nodes
pub record Cuttable (w : Wide) (i : ℕ) : Type 0 where
  pub whole : w.count ≤ 31
  pub inside : i < w.count
  pub left : i ≤ 14
  pub right : w.count ≤ i + extra w.kind + 14
