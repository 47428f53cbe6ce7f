-- Changes carried up from a leaf: nodes written, and what one level hands to the next.
use Rattle.std.specs.Prelude.{◌≡◌, Bool, true, false, cond, List, [], ◌∷◌, ◌++◌, ℕ, suc, ◌+◌, ◌≤◌, get_or, Result, Ok, Err}
use Rattle.nodes.specs.declared.node.Node.{Node}
use Rattle.nodes.specs.declared.change.Wide.{Wide}
use Rattle.nodes.specs.declared.change.Halves.{Halves}
use Rattle.nodes.specs.Node.{keys_of, slots_of}
use Rattle.nodes.specs.Entries.{entries_of, wide_entries}
use Rattle.nodes.specs.Change.{wide}
use Rattle.nodes.specs.Kept.{Whole, WholeWide}
use Rattle.operations.specs.Object.{node, Ans, Writes}
use Rattle.operations.specs.Entry.{Entries, kind}
use Rattle.operations.specs.Path.{TreePlan, Branch}
use Rattle.operations.specs.Change.{Go, split, neighbour}
use Rattle.change.specs.declared.rise.Risen.{Risen}
use Rattle.change.specs.declared.rise.Risen.TheVariants.{Up, Done}
use Rattle.walk.specs.declared.down.Turn.{Turn}
use Rattle.walk.specs.declared.walk.Stop.{Stop}
use Rattle.walk.specs.declared.walk.Answer.{Answer}
use Rattle.client.specs.Layout.{ClientWord}
use Rattle.client.specs.Record.{in_store, value_of}
use Rattle.client.specs.Lent.{LentList, LentMut, used_in}
use Rattle.walk.specs.Walk.{Course, Going, Ended, Answered, Told, goes, walked}
use Rattle.walk.specs.Lookup.{ended}
use Rattle.walk.specs.Walk.{stands}
use Rattle.walk.specs.Ask.{SmallNode, OwnKept, OwnGood, HoldsWrites, Noted, over_lent}
use Rattle.walk.specs.Take.{Wrote}
use Rattle.walk.specs.Entries.{branch_of}
use Rattle.walk.specs.Down.{Followed, Link}
use Rattle.client.specs.Bounds.{highest_level, keys_to_split}

-- a node is written under its name
pub record NodeWritten (x : List ℕ) (name : ℕ) (n : Node) (x' : List ℕ) : Type 0 where
  pub wrote : n.level ≤ highest_level → Wrote x (node name) (value_of (node name) n) x'
  pub holds : (slots : ℕ) (w : Writes) → in_store slots name ≡ true → HoldsWrites slots x w → HoldsWrites slots x' ((node name, value_of (node name) n) ∷ w)
  pub kept : OwnKept x'

-- the new content of a node of level l: up to 15 keys
pub record Content (l : ℕ) (n : Wide) : Type 0 where
  pub kind : n.kind ≡ kind l
  pub level : n.level ≡ l
  pub whole : WholeWide n
  pub few : n.count ≤ keys_to_split

-- an answer without pairs
abbrev pub no_pairs : Answer → Ans
no_pairs r = (r.a, r.b, [])

-- how far one level has come, and what goes up from it
abbrev pub risen_course : Result Risen Stop → Course
risen_course (Ok (Up n)) = Going
risen_course (Ok (Done r)) = Answered r.a r.b
risen_course (Err s) = Ended s

abbrev pub up_in : Result Risen Stop → Wide
up_in (Ok (Up n)) = n
up_in (Ok (Done r)) = wide 0 0 0 [] []
up_in (Err s) = wide 0 0 0 [] []

-- the same of a part of it that goes up unless the walk ends, and of one that is answered then
abbrev pub went_up : Result Wide Stop → Result Risen Stop
went_up (Ok n) = Ok (Up n)
went_up (Err s) = Err s

abbrev pub was_done : Result Answer Stop → Result Risen Stop
was_done (Ok r) = Ok (Done r)
was_done (Err s) = Err s

-- with the copies us and the writes w the walk has ended, or goes on
abbrev pub rose : Course → List ℕ → Writes → (List ℕ → Writes → Told) → Told
rose s us w f = cond (goes s) (f us w) (ended s us w [])

-- nothing is above the parent
abbrev pub is_root : List Branch → Bool
is_root [] = true
is_root (f ∷ fs) = false

-- One level below the root. `plan` is what it does, where the parent holds keys from lo on and has the path fs above it, before go;
-- `more` are its writes, the latest first. If the walk goes on, the parent's new content goes up.
pub record Raised (slots : ℕ) (m : ClientWord → ℕ) (x u : List ℕ) (l : ℕ) (root : Bool) (plan : ℕ → List Branch → Writes → Go → TreePlan) (r : Result Risen Stop) (x' u' : List ℕ) : Type 0 where
  pub more : Writes
  pub same : (w : Writes) → HoldsWrites slots x w → (lo : ℕ) (fs : List Branch) → is_root fs ≡ root → (go : Go)
      → walked slots m (plan lo fs w go) (used_in u) ≡ rose (risen_course r) (used_in u') (more ++ w) (λ us w'. walked slots m (go w' (wide_entries (up_in r) lo)) us)
  pub holds : stands (risen_course r) ≡ true → (w : Writes) → HoldsWrites slots x w → HoldsWrites slots x' (more ++ w)
  pub kept : stands (risen_course r) ≡ true → (w : Writes) → HoldsWrites slots x w → OwnKept x'
  pub good : goes (risen_course r) ≡ true → OwnGood x'
  pub few : goes (risen_course r) ≡ true → get_or x' 0 0 ≤ get_or x 0 0 + 3
  pub content : goes (risen_course r) ≡ true → Content (suc l) (up_in r)
  pub noted : Noted m u'

-- As a contract promises it, over what the walk is lent.
abbrev pub Raises : ℕ → LentList → LentMut → LentMut → ℕ → Bool → (ℕ → List Branch → Writes → Go → TreePlan) → Result Risen Stop → Type 0
Raises slots part own used l root plan r = over_lent Raised slots part own used l root plan r own.exit.now used.exit.now

-- The last level. `plan` is what it does after the writes w.
pub record Closed (slots : ℕ) (m : ClientWord → ℕ) (x u : List ℕ) (plan : Writes → TreePlan) (s : Course) (x' u' : List ℕ) : Type 0 where
  pub more : Writes
  pub same : (w : Writes) → HoldsWrites slots x w → walked slots m (plan w) (used_in u) ≡ ended s (used_in u') (more ++ w) []
  pub holds : stands s ≡ true → (w : Writes) → HoldsWrites slots x w → HoldsWrites slots x' (more ++ w)
  pub kept : stands s ≡ true → (w : Writes) → HoldsWrites slots x w → OwnKept x'
  pub noted : Noted m u'

-- As a contract promises it, over what the walk is lent.
abbrev pub Closes : ℕ → LentList → LentMut → LentMut → (Writes → TreePlan) → Course → Type 0
Closes slots part own used plan s = over_lent Closed slots part own used plan s own.exit.now used.exit.now

-- ---- the node of the name c and the level l whose parent is b, with the entries es lo where it holds keys from lo on
abbrev pub in_parent : Turn → ℕ → Branch
in_parent b lo = branch_of b.name b.at (entries_of b.node lo)

-- its parent is at hand, and both are in the store
pub record Under (slots l c : ℕ) (b : Turn) : Type 0 where
  pub followed : Followed b
  pub link : Link slots l c b
  pub there : in_store slots b.name ≡ true

-- a node of level l
pub record OfLevel (l : ℕ) (n : Node) : Type 0 where
  pub kind : n.kind ≡ kind l
  pub level : n.level ≡ l
  pub whole : Whole n

-- of 15 keys
pub record Full (l : ℕ) (n : Wide) : Type 0 where
  pub content : Content l n
  pub full : n.count ≡ keys_to_split

-- a node of 15 keys below the root
unfoldable pub split_plan : ℕ → ℕ → Turn → ℕ → (ℕ → Entries) → ℕ → List Branch → Writes → Go → TreePlan
split_plan slots l b c es lo fs w go = let f = in_parent b lo in split slots go l w f c (es f.key)

-- "left with 6 keys"
unfoldable pub neighbour_plan : Ans → ℕ → Turn → ℕ → (ℕ → Entries) → ℕ → List Branch → Writes → Go → TreePlan
neighbour_plan a l b c es lo fs w go = let f = in_parent b lo in neighbour a l fs go w f c (es f.key) f.post

-- ---- two nodes are written
-- two nodes of a level up to 4
pub record Fitting (h : Halves) : Type 0 where
  pub left : SmallNode h.left
  pub right : SmallNode h.right

pub record BothWritten (x : List ℕ) (c d : ℕ) (h : Halves) (x' : List ℕ) : Type 0 where
  pub holds : (slots : ℕ) (w : Writes) → in_store slots c ≡ true → in_store slots d ≡ true → HoldsWrites slots x w
      → HoldsWrites slots x' ((node d, value_of (node d) h.right) ∷ (node c, value_of (node c) h.left) ∷ w)
  pub good : OwnGood x'
  pub few : get_or x' 0 0 ≤ get_or x 0 0 + 2
  pub kept : OwnKept x'

-- ---- a node as the content that goes up
unfoldable pub widened : Node → Wide
widened n = wide n.kind n.level n.version (keys_of n) (slots_of n)
