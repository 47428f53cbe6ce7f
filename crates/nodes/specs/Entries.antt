-- A node's entries: its keys, each with its slot. An inner node has one slot more than keys: its first entry has the key lo from
-- which the node holds keys, which is not stored in it. "Child i holds the keys from key i up to, not including, key i+1."
use Rattle.std.specs.Prelude.{ℕ, List, [], ◌∷◌, ◌++◌, take}
use Rattle.nodes.specs.declared.node.Node.{Node}
use Rattle.nodes.specs.declared.change.Wide.{Wide}
use Rattle.nodes.specs.Node.{extra, keys_of, slots_of}
use Rattle.nodes.specs.Change.{wide_keys, wide_slots}

abbrev pub zip : List ℕ → List ℕ → List (ℕ × ℕ)
zip [] ss = []
zip (k ∷ ks) [] = []
zip (k ∷ ks) (s ∷ ss) = (k, s) ∷ zip ks ss

-- of a node with e slots more than keys: 0 for a leaf, 1 for an inner node
abbrev pub headed : ℕ → ℕ → List ℕ → List ℕ
headed e lo ks = take e (lo ∷ []) ++ ks

unfoldable pub entries : ℕ → ℕ → List ℕ → List ℕ → List (ℕ × ℕ)
entries e lo ks ss = zip (headed e lo ks) ss

unfoldable pub entries_of : Node → ℕ → List (ℕ × ℕ)
entries_of n lo = entries (extra n.kind) lo (keys_of n) (slots_of n)

unfoldable pub wide_entries : Wide → ℕ → List (ℕ × ℕ)
wide_entries w lo = entries (extra w.kind) lo (wide_keys w) (wide_slots w)
