-- The way down: what comes of the root, of a node below it, and of a path.
use Rattle.std.specs.Prelude.{◌≡◌, Bool, true, false, List, [], ◌∷◌, map, ℕ, zero, suc, ◌-◌, ◌≤◌, ◌<◌, length, get_or, Result, Ok, Err, IfOk}
use Rattle.nodes.specs.declared.node.Node.{Node}
use Rattle.nodes.specs.Node.{free_node}
use Rattle.nodes.specs.Stored.{node_at}
use Rattle.memory.specs.Word.{view}
use Rattle.nodes.specs.Entries.{entries_of}
use Rattle.nodes.specs.Kept.{Whole}
use Rattle.operations.specs.Object.{meta, object, Writes}
use Rattle.operations.specs.Entry.{Entries}
use Rattle.operations.specs.Path.{TreePlan, kid, when_root, at_root, Branch, Cont, down, from_root}
use Rattle.walk.specs.declared.down.Turn.{Turn}
use Rattle.walk.specs.declared.down.Descent.{Descent}
use Rattle.walk.specs.declared.down.Lower.{Lower}
use Rattle.walk.specs.declared.down.Rooted.{Rooted}
use Rattle.walk.specs.declared.down.Pass.{Pass}
use Rattle.walk.specs.declared.walk.Stop.{Stop}
use Rattle.client.specs.Layout.{ClientWord}
use Rattle.client.specs.Record.{in_store}
use Rattle.client.specs.Lent.{LentList, LentMut, used_in}
use Rattle.walk.specs.Entries.{opens, below, Inner, branch_of, Below}
use Rattle.walk.specs.Walk.{Course, Going, Ended, course, ok_or, goes, walked, carry}
use Rattle.walk.specs.Ask.{SmallNode, HoldsWrites, Noted, InPart, placed_in, over_read, lent_node}
use Rattle.plans.specs.Plan as P
use Rattle.client.specs.Bounds.{highest_level, level_count}

-- a node of level l below the root, for any key lo from which it holds keys
pub record Kid (slots : ℕ) (m : ClientWord → ℕ) (x u : List ℕ) (l n : ℕ) (s : Course) (r : Node) (u' : List ℕ) : Type 0 where
  pub asks : (w : Writes) → HoldsWrites slots x w → (lo : ℕ) (k : Entries → TreePlan)
      → walked slots m (kid w l lo n k) (used_in u) ≡ carry s (used_in u') (λ us. walked slots m (k (entries_of r lo)) us)
  pub noted : Noted m u'
  pub small : goes s ≡ true → SmallNode r
  pub long : length u' ≡ length u
  pub fits : goes s ≡ true → below l r ≡ true
  pub whole : goes s ≡ true → Whole r
  pub inside : goes s ≡ true → in_store slots n ≡ true

-- the root of that name
pub record RootMet (slots : ℕ) (m : ClientWord → ℕ) (u : List ℕ) (n : ℕ) (s : Course) (r : Node) (u' : List ℕ) : Type 0 where
  pub asks : (k : ℕ → Entries → TreePlan)
      → walked slots m (at_root n k) (used_in u) ≡ carry s (used_in u') (λ us. walked slots m (k r.level (entries_of r 0)) us)
  pub noted : Noted m u'
  pub small : goes s ≡ true → SmallNode r
  pub long : length u' ≡ length u
  pub fits : goes s ≡ true → opens r ≡ true
  pub whole : goes s ≡ true → Whole r
  pub inside : goes s ≡ true → in_store slots n ≡ true

-- a place of the path that is not passed
abbrev pub blank : Turn
blank = record { name = 0; at = 0; node = free_node 0 }

abbrev pub nowhere : Pass
nowhere = record { name = 0; at = 0; place = 0 }

-- ---- what the code passes stands in a part of the bytes b
-- an inner node that was passed
abbrev pub turn_in : List ℕ → Pass → Turn
turn_in b p = record { name = p.name; at = p.at; node = node_at (view b) p.place }

-- all that were passed
abbrev pub turns_in : List ℕ → List Pass → List Turn
turns_in b ps = map (turn_in b) ps

-- where a way down has come to: how far the walk has come, the root's level, the inner nodes passed by their levels, and the node reached
pub record Arrival : Type 0 where
  pub course : Course
  pub top : ℕ
  pub path : List Turn
  pub name : ℕ
  pub node : Node

abbrev pub no_arrival : Stop → Arrival
no_arrival s = record { course = Ended s; top = 0; path = []; name = 0; node = free_node 0 }

abbrev pub arrival : List ℕ → Result Descent Stop → Arrival
arrival b (Ok d) = record { course = Going; top = d.top; path = turns_in b d.path; name = d.name; node = node_at (view b) d.place }
arrival b (Err s) = no_arrival s

-- the same over the lent part
abbrev pub arrived : LentList → Result Descent Stop → Arrival
arrived part d = arrival part.entry.now d

-- every place of a path is one of the part
pub record PathInPart (ps : List Pass) : Type 0 where
  pub each : (i : ℕ) → i < length ps → InPart (get_or ps i nowhere).place

-- ---- a path: the inner nodes above a node, the nearest first
-- from what key on the node below them holds keys
abbrev pub low : List Turn → ℕ
low [] = 0
low (b ∷ bs) = (get_or (entries_of b.node (low bs)) b.at (0, 0)).0

abbrev pub branches : List Turn → List Branch
branches [] = []
branches (b ∷ bs) = branch_of b.name b.at (entries_of b.node (low bs)) ∷ branches bs

-- the n that stand in an array above the level l
unfoldable pub trail : List Turn → ℕ → ℕ → List Turn
trail p l zero = []
trail p l (suc n) = get_or p (suc l) blank ∷ trail p (suc l) n

-- a branch as the code has it
pub record Followed (b : Turn) : Type 0 where
  pub inner : Inner b.node
  pub whole : Whole b.node
  pub small : SmallNode b.node
  pub within : b.at ≤ b.node.count

unfoldable pub All : List Turn → Type 0
All [] = Unit {0}
All (b ∷ bs) = Followed b × All bs

-- a branch as it is linked to the node below it, of the level l and the name n: "exactly one level lower", at the child that was followed
pub record Link (slots l n : ℕ) (b : Turn) : Type 0 where
  pub level : b.node.level ≡ suc l
  pub child : n ≡ get_or b.node.slots b.at 0
  pub there : in_store slots n ≡ true

-- all the names of a path are in the store, and each branch is linked to the next
unfoldable pub Linked : ℕ → ℕ → ℕ → List Turn → Type 0
Linked slots l n [] = in_store slots n ≡ true
Linked slots l n (b ∷ bs) = Link slots l n b × Linked slots (suc l) b.name bs

-- where a way down may begin: at a node that is open, no lower than the level looked for
pub record From (n : Node) (target : ℕ) : Type 0 where
  pub whole : Whole n
  pub small : SmallNode n
  pub opened : opens n ≡ true
  pub above : target ≤ n.level

-- stop says so first at the level looked for
pub record Stops (stop : ℕ → Bool) (target : ℕ) : Type 0 where
  pub before : (l : ℕ) → target < l → stop l ≡ false
  pub there : 0 < target → stop target ≡ true

-- an inner node of a level
pub record Above (n : Node) (level : ℕ) : Type 0 where
  pub whole : Whole n
  pub small : SmallNode n
  pub opened : opens n ≡ true
  pub level_is : n.level ≡ level
  pub inner : 0 < level

-- a step down from it: s says how it went; if it goes on, i is the number of the child, c its name and r its node
pub record Lowered (slots : ℕ) (m : ClientWord → ℕ) (u : List ℕ) (key level : ℕ) (n : Node) (s : Course) (i c : ℕ) (r : Node) (u' : List ℕ) : Type 0 where
  pub asks : (stop : ℕ → Bool) → stop level ≡ false → (k : Cont) (fs : List Branch) (nm lo : ℕ)
      → walked slots m (down stop key k level fs nm (entries_of n lo)) (used_in u)
      ≡ carry s (used_in u') (λ us. walked slots m
      (down stop key k (level - 1) (branch_of nm i (entries_of n lo) ∷ fs) c (entries_of r (get_or (entries_of n lo) i (0, 0)).0)) us)
  pub noted : Noted m u'
  pub long : length u' ≡ length u
  pub turned : goes s ≡ true → Followed (record { name = 0; at = i; node = n })
  pub small : goes s ≡ true → SmallNode r
  pub whole : goes s ≡ true → Whole r
  pub fits : goes s ≡ true → Below (level - 1) r
  pub child : goes s ≡ true → c ≡ get_or n.slots i 0
  pub inside : goes s ≡ true → in_store slots c ≡ true

-- the step as the code has it, and where it has come to in a part of the bytes b
abbrev pub nothing_lower : Lower
nothing_lower = record { at = 0; name = 0; place = 0 }

abbrev pub lower_node_in : List ℕ → Result Lower Stop → Node
lower_node_in b (Ok l) = node_at (view b) l.place
lower_node_in b (Err s) = free_node 0

-- over what the walk is lent, from the node at a place
abbrev pub Lowers : ℕ → LentList → LentMut → ℕ → ℕ → ℕ → Result Lower Stop → List ℕ → Type 0
Lowers slots part used key level from l u' =
    over_read Lowered slots part used key level (lent_node part from) (course l) (ok_or nothing_lower l).at (ok_or nothing_lower l).name
    (lower_node_in part.entry.now l) u'

abbrev pub LowerInPart : Result Lower Stop → Type 0
LowerInPart l = IfOk l (λ l. InPart l.place)

-- what stands at its end
pub record Reached (target : ℕ) (d : Arrival) : Type 0 where
  pub level : d.node.level ≡ target
  pub opened : opens d.node ≡ true
  pub small : SmallNode d.node
  pub whole : Whole d.node
  pub size : length d.path ≡ level_count
  pub above : target ≤ d.top
  pub good : All (trail d.path target (d.top - target))

-- the way down from a root to a level
pub record Led (slots : ℕ) (m : ClientWord → ℕ) (u : List ℕ) (key target root : ℕ) (first : Node) (d : Arrival) (u' : List ℕ) : Type 0 where
  pub asks : (stop : ℕ → Bool) → Stops stop target → (k : Cont)
      → walked slots m (down stop key k first.level [] root (entries_of first 0)) (used_in u)
      ≡ carry d.course (used_in u') (λ us. walked slots m
      (k target (branches (trail d.path target (d.top - target))) d.name (entries_of d.node (low (trail d.path target (d.top - target))))) us)
  pub noted : Noted m u'
  pub high : d.top ≤ highest_level
  pub reached : goes d.course ≡ true → Reached target d
  pub linked : in_store slots root ≡ true → goes d.course ≡ true → Linked slots target d.name (trail d.path target (d.top - target))

-- ---- from the metadata on: the root as the code has it
abbrev pub root_name_in : Result Rooted Stop → ℕ
root_name_in (Ok r) = r.name
root_name_in (Err s) = 0

abbrev pub root_node_in : List ℕ → Result Rooted Stop → Node
root_node_in b (Ok r) = node_at (view b) r.place
root_node_in b (Err s) = free_node 0

-- its name q and its node r
pub record AtRoot (slots : ℕ) (m : ClientWord → ℕ) (u : List ℕ) (s : Course) (q : ℕ) (r : Node) (u' : List ℕ) : Type 0 where
  pub asks : (k : ℕ → ℕ → Entries → TreePlan)
      → walked slots m (P.ask (object meta) (λ v. when_root v (λ q. at_root q (k q)))) (used_in u)
      ≡ carry s (used_in u') (λ us. walked slots m (k q r.level (entries_of r 0)) us)
  pub noted : Noted m u'
  pub begins : goes s ≡ true → From r 0
  pub inside : goes s ≡ true → in_store slots q ≡ true

-- down to the leaf for a key
pub record Descends (slots : ℕ) (m : ClientWord → ℕ) (u : List ℕ) (key : ℕ) (d : Arrival) (u' : List ℕ) : Type 0 where
  pub asks : (k : List Branch → ℕ → Entries → TreePlan)
      → walked slots m (from_root key k) (used_in u)
      ≡ carry d.course (used_in u') (λ us. walked slots m (k (branches (trail d.path 0 (d.top - 0))) d.name (entries_of d.node (low (trail d.path 0 (d.top - 0))))) us)
  pub noted : Noted m u'
  pub high : d.top ≤ highest_level
  pub reached : goes d.course ≡ true → Reached 0 d
  pub linked : goes d.course ≡ true → Linked slots 0 d.name (trail d.path 0 (d.top - 0))

-- ---- the same by an operation that asks nothing of the path: there is one, whatever it is, and r is the node reached
pub record Reaches (slots : ℕ) (m : ClientWord → ℕ) (u : List ℕ) (key : ℕ) (first : Node) (s : Course) (r : Node) (u' : List ℕ) : Type 0 where
  pub come : ℕ → Arrival
  pub course : (root : ℕ) → (come root).course ≡ s
  pub node : (root : ℕ) → (come root).node ≡ r
  pub led : (root : ℕ) → Led slots m u key 0 root first (come root) u'

-- over what the walk is lent: from the node at a place to the one at another
abbrev pub Reaching : ℕ → LentList → LentMut → ℕ → ℕ → Result ℕ Stop → Type 0
Reaching slots part used key from r =
    over_read Reaches slots part used key (lent_node part from) (course r) (placed_in part.entry.now r) used.exit.now

-- from the metadata on
pub record ToLeaf (slots : ℕ) (m : ClientWord → ℕ) (u : List ℕ) (key : ℕ) (s : Course) (r : Node) (u' : List ℕ) : Type 0 where
  pub come : Arrival
  pub course : come.course ≡ s
  pub node : come.node ≡ r
  pub descends : Descends slots m u key come u'
