-- A node as a list of entries: its keys with its values or children. The first entry of an inner node has the key from which
-- the node holds keys, which its parent stores and it does not. With it leaves and inner nodes split, merge and lend alike.
use mathlib.Core.List.{List, [], ◌∷◌, map, tail, reverse}
use Rattle.std.specs.Prelude.{cond, ℕ, zero, suc, ◌+◌, ◌-◌, ltb, get_or, set, take, drop}
use Rattle.std.proofs.Math.Option.{Option, none, some}
use Rattle.base.specs.Test.{one_if}
use Rattle.nodes.specs.Lists.{insert_at}
use Rattle.nodes.specs.declared.standing.KeyPlace.{KeyPlace}
use Rattle.nodes.specs.Place.{place, key_place}
use Rattle.operations.specs.Object.{Val, body}

-- keys, each with its value or child
abbrev pub Entries : Type 0
Entries = List (ℕ × ℕ)

-- the keys of entries
abbrev pub keys : {A : Type 0} → List (ℕ × A) → List ℕ
keys es = map (λ e. e.0) es

-- the values or children of entries
abbrev pub vals : Entries → List ℕ
vals es = map (λ e. e.1) es

-- keys beside values or children; a node in range has as many of the one as of the other, so none is left out
abbrev pub zip : List ℕ → List ℕ → Entries
zip [] vs = []
zip (k ∷ ks) [] = []
zip (k ∷ ks) (v ∷ vs) = (k, v) ∷ zip ks vs

-- the node of a level with these entries: kind 1 and level 0, or kind 2 and a level from 1
abbrev pub node_value : ℕ → Entries → Val
node_value zero es = body 1 0 (keys es) (vals es)
node_value (suc l) es = body 2 (suc l) (keys (tail es)) (vals es)

abbrev pub kind : ℕ → ℕ
kind zero = 1
kind (suc l) = 2

-- the fewest and the most entries of a node other than the root: 7 to 14 keys, and in an inner node one child more
abbrev pub fewest_entries : ℕ → ℕ
fewest_entries zero = 7
fewest_entries (suc l) = 8

-- the most: 14 keys, and in an inner node one child more
abbrev pub most_entries : ℕ → ℕ
most_entries zero = 14
most_entries (suc l) = 15

-- the first key, or else the bound
abbrev pub first_key_or : {A : Type 0} → List (ℕ × A) → ℕ → ℕ
first_key_or [] b = b
first_key_or (e ∷ es) b = e.0

-- the number of keys below a key
unfoldable pub under : List ℕ → ℕ → ℕ
under [] k = 0
under (x ∷ l) k = one_if (ltb x k) + under l k

-- INNER NODES: the entries before the one at an index, that one, and those after it
abbrev pub Cut : Type 0 → Type 0
Cut A = List (ℕ × A) × (ℕ × A) × List (ℕ × A)

module _ {A : Type 0} where
  -- e and es cut at index i, which is a place, so at most the number of es: the second clause is not reached
  abbrev pub cut_at : ℕ → (ℕ × A) → List (ℕ × A) → Cut A
  cut_at zero e es = ([], e, es)
  cut_at (suc i) e [] = ([], e, [])
  cut_at (suc i) e (f ∷ es) = let r = cut_at i f es in (e ∷ r.0, r.1, r.2)

  -- "Child i holds the keys from key i up to, not including, key i+1": a key leads to the child whose index is the key's
  -- place, "the number of keys not above it", among the stored keys
  abbrev pub cut : ℕ → (ℕ × A) → List (ℕ × A) → Cut A
  cut key e es = cut_at (place (keys es) key) e es

-- LEAVES
-- "Insert, lookup and delete go by it": the place of a key, and whether it is there
abbrev pub place_in : ℕ → Entries → KeyPlace
place_in key es = key_place (keys es) key

-- the value at a place, if the key is there
abbrev pub value_at : Entries → KeyPlace → Option ℕ
value_at es p = cond p.there (some (get_or (vals es) (p.place - 1) 0)) none

-- the value of a key in a leaf, if it is there
abbrev pub value_in : ℕ → Entries → Option ℕ
value_in key es = value_at es (place_in key es)

-- "Insert of a present key replaces its value"; another comes after the keys not above it
abbrev pub with_at : ℕ → ℕ → Entries → KeyPlace → Entries
with_at key v es p = cond p.there (set es (p.place - 1) (key, v)) (insert_at p.place (key, v) es)

-- a leaf's entries with the key's value set
abbrev pub with_pair : ℕ → ℕ → Entries → Entries
with_pair key v es = with_at key v es (place_in key es)

-- the pairs strictly above a key: those after the keys not above it
abbrev pub above_in : ℕ → Entries → Entries
above_in key es = drop (place (keys es) key) es

-- the pairs not below a key: those after the keys below it
abbrev pub from_in : ℕ → Entries → Entries
from_in key es = drop (under (keys es) key) es

-- the pairs strictly below, the nearest first
abbrev pub below_in : ℕ → Entries → Entries
below_in key es = reverse (take (under (keys es) key) es)
