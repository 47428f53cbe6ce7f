-- The place of a key in a node, and whether the key is there.
use Rattle.std.specs.Prelude.{ℕ, zero, suc, ◌+◌, ◌≤◌, ◌<◌, ◌≡◌, List, [], ◌∷◌, Bool, true, false, ◌&&◌, ◌||◌, get_or, eqb, leb, ltb}
use Rattle.base.specs.Test.{one_if}
use Rattle.nodes.specs.declared.node.Node.{Node}
use Rattle.nodes.specs.declared.standing.KeyPlace.{KeyPlace}
use Rattle.nodes.specs.Node.{keys_of}

-- "The place of a key in a node is the number of keys not above it. Source 000 answers nothing for an empty node; here it is 0."
unfoldable pub place : List ℕ → ℕ → ℕ
place [] k = 0
place (x ∷ l) k = one_if (leb x k) + place l k

-- "yes exactly when it is not 0 and the key there equals the one sought": at place 1 is the first key
unfoldable pub there_at : List ℕ → ℕ → ℕ → Bool
there_at ks key zero = false
there_at ks key (suc i) = eqb (get_or ks i 0) key

-- "The place in a node comes with a yes or no"
unfoldable pub key_place : List ℕ → ℕ → KeyPlace
key_place ks key = record { place = place ks key; there = there_at ks key (place ks key) }

-- no place is behind the last of so many keys, and none with a yes is 0
pub record Within (p : KeyPlace) (count : ℕ) : Type 0 where
  pub most : p.place ≤ count
  pub not_zero : p.there ≡ true → 0 < p.place

-- the elements are above x, each above the one before
abbrev pub first_above : ℕ → List ℕ → Bool
first_above x [] = true
first_above x (y ∷ l) = ltb x y && first_above y l

-- "keys in strictly rising order"
unfoldable pub rises : List ℕ → Bool
rises [] = true
rises (x ∷ l) = first_above x l

-- is the key one of these?
abbrev pub has_key : List ℕ → ℕ → Bool
has_key [] key = false
has_key (x ∷ l) key = eqb x key || has_key l key

-- "Where keys rise, yes is shown to come exactly when the node has the key", of leaves and inner nodes alike
abbrev pub YesWhereItIs : Type 0
YesWhereItIs = (n : Node) (key : ℕ) → rises (keys_of n) ≡ true → (key_place (keys_of n) key).there ≡ has_key (keys_of n) key
