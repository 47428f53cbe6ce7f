-- Pairs found in leaves, and which ones are sought there.
use Rattle.std.specs.Prelude.{◌≡◌, Bool, true, false, List, [], ◌∷◌, ◌++◌, ℕ, zero, suc, ◌+◌, ◌-◌, ◌*◌, ◌≤◌, ◌<◌, length, get_or, set, take}
use Rattle.nodes.specs.declared.node.Node.{Node}
use Rattle.nodes.specs.Place.{place}
use Rattle.nodes.specs.Entries.{entries_of}
use Rattle.nodes.specs.Kept.{Whole}
use Rattle.operations.specs.Object.{Ans}
use Rattle.operations.specs.Map.{listed}
use Rattle.operations.specs.Entry.{Entries, under, above_in, below_in, from_in}
use Rattle.operations.specs.Path.{TreePlan, Branch}
use Rattle.operations.specs.Look.{Search, nearest, Visit, rightward, leftward, from_leaf}
use Rattle.walk.specs.declared.found.Sought.{Sought}
use Rattle.walk.specs.declared.found.Sought.TheVariants.{Higher, Lower, AtLeast}
use Rattle.walk.specs.declared.found.Wish.{Wish}
use Rattle.walk.specs.Entries.{opens}
use Rattle.walk.specs.Ask.{SmallNode}
use Rattle.client.specs.Lent.{LentMut}
use Rattle.client.specs.Bounds.{most_listed}

-- ---- the pairs found, in a lent list: their number, then the key and the value of each. What lies behind them is free: anything may stand there, and
-- nobody reads it
unfoldable pub pair_in : List ℕ → ℕ → ℕ × ℕ
pair_in f i = (get_or f (2 * i + 1) 0, get_or f (2 * i + 2) 0)

unfoldable pub first_pairs : List ℕ → ℕ → Entries
first_pairs f zero = []
first_pairs f (suc n) = first_pairs f n ++ (pair_in f n ∷ [])

unfoldable pub pairs_in : List ℕ → Entries
pairs_in f = first_pairs f (get_or f 0 0)

-- it has room for as many as are wanted, and no more are in it
pub record Roomy (wanted : ℕ) (f : List ℕ) : Type 0 where
  pub some : 0 < wanted
  pub few : wanted ≤ most_listed
  pub long : 2 * wanted + 1 ≤ length f
  pub within : get_or f 0 0 ≤ wanted

-- one pair more
unfoldable pub pushed_pair : List ℕ → ℕ → ℕ → List ℕ
pushed_pair f k v = let n = get_or f 0 0 in set (set (set f (2 * n + 1) k) (2 * n + 2) v) 0 (n + 1)

-- ---- what is sought
-- the side on which it lies: true for the right one
abbrev pub to_right : Sought → Bool
to_right Higher = true
to_right Lower = false
to_right AtLeast = true

-- the pairs of a leaf that are sought from a key on, the nearest first
abbrev pub sought_in : Sought → ℕ → Entries → Entries
sought_in Higher key = above_in key
sought_in Lower key = below_in key
sought_in AtLeast key = from_in key

-- by their indices: how many keys come before those on the right
abbrev pub start_in : Sought → List ℕ → ℕ → ℕ
start_in Higher ks key = place ks key
start_in Lower ks key = under ks key
start_in AtLeast ks key = under ks key

-- how many are sought, of a leaf with that many keys
abbrev pub many_from : Sought → ℕ → ℕ → ℕ
many_from Higher start count = count - start
many_from Lower start count = start
many_from AtLeast start count = count - start

-- the index of the one after j others
abbrev pub index_from : Sought → ℕ → ℕ → ℕ
index_from Higher start j = start + j
index_from Lower start j = start - 1 - j
index_from AtLeast start j = start + j

-- that pair of a leaf is found too
unfoldable pub with_one : Node → Sought → ℕ → ℕ → List ℕ → List ℕ
with_one n s start j f = pushed_pair f (get_or n.keys (index_from s start j) 0) (get_or n.slots (index_from s start j) 0)

-- what is answered by those found
abbrev pub answer_by : Sought → Entries → Ans
answer_by Higher = nearest
answer_by Lower = nearest
answer_by AtLeast = listed

-- the wish as the plans have it
abbrev pub search_of : Wish → Search
search_of w = record { wanted = w.wanted; in_leaf = sought_in w.sought w.key; answer = answer_by w.sought }

-- the pairs of the answer by those found
abbrev pub pairs_told : Wish → Entries → Entries
pairs_told w got = (answer_by w.sought got).2

-- one side of a path
abbrev pub visit : Bool → Visit
visit true = rightward
visit false = leftward

abbrev pub side : Bool → Branch → Entries
side true f = f.post
side false f = f.pre

-- the plan of the search
abbrev pub search_plan : Wish → TreePlan
search_plan w = from_leaf (search_of w) (visit (to_right w.sought)) (side (to_right w.sought)) w.key

-- the pairs got, and those of a node that are sought, as many as are wanted
abbrev pub gathered : Wish → Node → Entries → Entries
gathered w n got = take w.wanted (got ++ sought_in w.sought w.key (entries_of n 0))

-- ---- the pairs in the lent list: as it is lent, as it comes back, and those of the answer then
abbrev pub lent_pairs : LentMut → Entries
lent_pairs found = pairs_in found.entry.now

abbrev pub left_pairs : LentMut → Entries
left_pairs found = pairs_in found.exit.now

abbrev pub left_told : Wish → LentMut → Entries
left_told w found = pairs_told w (left_pairs found)

-- ---- a leaf as the code has it
pub record LeafAt (n : Node) : Type 0 where
  pub whole : Whole n
  pub small : SmallNode n
  pub opened : opens n ≡ true
  pub level : n.level ≡ 0
