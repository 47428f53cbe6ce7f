-- The lent lists of a work step: the operation's own writes, and the copies that it uses. Nothing of them is stored.
use Rattle.std.specs.Prelude.{List, [], ◌∷◌, ◌++◌, ℕ, zero, suc, ◌+◌, ◌*◌, ◌≤◌, ◌<◌, length, get_or, take, drop, set}
use Rattle.std.proofs.Math.Seq.{paste}
use Rattle.std.specs.Borrow.{Bor, MutBor}
use denote.Triple.Both.{Both}
use Rattle.nodes.specs.declared.node.Node.{Node}
use Rattle.nodes.specs.Found.{Found}
use Rattle.std.specs.Prelude.{Some, None}
use Rattle.client.specs.Sets.{first_of}
use Rattle.nodes.specs.Stored.{node_at, words_of}
use Rattle.client.specs.Bounds.{end_of_numbers, used_most, used_room, own_most, own_room}
use Rattle.client.specs.Layout.{limit, item_words}
use Rattle.client.specs.declared.part.Set.TheVariants.{Reads}

-- a lent list as a contract names it: as it is lent, and as it comes back; one that is only read
abbrev pub LentList : Type 0
LentList = Both (Bor (List ℕ)) (Bor (List ℕ))

-- and one that may be written
abbrev pub LentMut : Type 0
LentMut = Both (MutBor (List ℕ)) (MutBor (List ℕ))

-- ---- own writes: their count, then items of 34 words, an object's number and its record; each object once
pub record OwnFits (w : List ℕ) : Type 0 where
  pub long : own_room ≤ length w
  pub few : get_or w 0 0 ≤ own_most

abbrev pub own_count : List ℕ → ℕ
own_count w = get_or w 0 0

unfoldable pub own_number : List ℕ → ℕ → ℕ
own_number w i = get_or w (item_words * i + 1) 0

unfoldable pub own_record : List ℕ → ℕ → Node
own_record w i = node_at w (item_words * i + 2)

-- an object's number with its record
abbrev pub Entry : Type 0
Entry = ℕ × Node

-- the first n of them as entries
unfoldable pub own_first : List ℕ → ℕ → List Entry
own_first w zero = []
own_first w (suc n) = own_first w n ++ ((own_number w n, own_record w n) ∷ [])

-- all of them as entries
unfoldable pub own_list : List ℕ → List Entry
own_list w = own_first w (own_count w)

unfoldable pub own_find : List ℕ → ℕ → Found
own_find w x = first_of (own_number w) (own_count w) x

-- the object x gets the record r: in its place, else behind the others
unfoldable pub own_at : List ℕ → ℕ → Node → ℕ → List ℕ
own_at w x r i = paste w (item_words * i + 1) (x ∷ words_of r) item_words

abbrev pub own_entered : List ℕ → ℕ → Node → Found → List ℕ
own_entered w x r (Some i) = own_at w x r i
own_entered w x r None = set (own_at w x r (own_count w)) 0 (own_count w + 1)

unfoldable pub own_put : List ℕ → ℕ → Node → List ℕ
own_put w x r = own_entered w x r (own_find w x)

-- ---- the copies in use: their count, then their numbers, in the order of use
pub record Lent (u : List ℕ) : Type 0 where
  pub long : used_room ≤ length u
  pub few : get_or u 0 0 ≤ limit Reads
  pub small : (i : ℕ) → i < get_or u 0 0 → get_or u (i + 1) 0 < end_of_numbers

-- object 97 may be among them, where it is judged at once
pub record InUse (u : List ℕ) : Type 0 where
  pub long : used_room ≤ length u
  pub few : get_or u 0 0 ≤ used_most
  pub small : (i : ℕ) → i < get_or u 0 0 → get_or u (i + 1) 0 < end_of_numbers

unfoldable pub used_in : List ℕ → List ℕ
used_in u = take (get_or u 0 0) (drop 1 u)

unfoldable pub pushed : List ℕ → ℕ → List ℕ
pushed u x = set (set u (get_or u 0 0 + 1) x) 0 (get_or u 0 0 + 1)
