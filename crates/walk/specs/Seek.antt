-- Leaves in a row: the nearest branch on one side, and the leaves below it.
use Rattle.std.specs.Prelude.{◌≡◌, Bool, true, false, cond, List, [], ◌∷◌, ◌++◌, ℕ, zero, suc, ◌+◌, ◌-◌, ◌≤◌, ◌<◌, ltb, length, take, drop, get_or, set, Option, Some, None, option_map, Result}
use Rattle.nodes.specs.declared.node.Node.{Node}
use Rattle.nodes.specs.Entries.{entries_of}
use Rattle.nodes.specs.Kept.{Whole}
use Rattle.operations.specs.Entry.{Entries}
use Rattle.operations.specs.Path.{TreePlan}
use Rattle.operations.specs.Look.{Search, Onward, nearest, told, enough, seek}
use Rattle.walk.specs.declared.down.Turn.{Turn}
use Rattle.walk.specs.declared.down.Pass.{Pass}
use Rattle.walk.specs.declared.walk.Stop.{Stop}
use Rattle.walk.specs.declared.found.Wish.{Wish}
use Rattle.walk.specs.declared.seek.Ahead.{Ahead}
use Rattle.walk.specs.Entries.{opens}
use Rattle.client.specs.Layout.{ClientWord}
use Rattle.client.specs.Sets.{held}
use Rattle.client.specs.Lent.{LentList, LentMut, used_in}
use Rattle.walk.specs.Walk.{Course, course, ok_or, goes, walked, carry}
use Rattle.walk.specs.Ask.{SmallNode, Noted, Walking, over_read, lent_node}
use Rattle.walk.specs.Lookup.{Ends, Walks, ended}
use Rattle.walk.specs.Down.{turns_in, trail, All}
use Rattle.walk.specs.Found.{Roomy, to_right, search_of, search_plan, pairs_told, visit, pairs_in, lent_pairs, left_pairs, left_told}
use Rattle.client.specs.Bounds.{highest_level, level_count}

-- is there a child left on that side of child number i, of a node with that many keys
abbrev pub more_with : Bool → ℕ → ℕ → Bool
more_with true i count = ltb i count
more_with false i count = ltb 0 i

-- of the one that was followed
unfoldable pub more : Bool → Turn → Bool
more right b = more_with right b.at b.node.count

abbrev pub onward : Bool → ℕ → ℕ
onward true i = i + 1
onward false i = i - 1

-- the first child from that side's other end, of a node with that many keys
abbrev pub first_at : Bool → ℕ → ℕ
first_at true count = 0
first_at false count = count

-- ---- the children left to visit, level by level from the lowest
abbrev pub rest : Bool → ℕ → Entries → Entries
rest true i es = drop (suc i) es
rest false i es = take i es

-- up from a level: the leaves below the entries left there, then those left further up
unfoldable pub climb : Search → Bool → ℕ → List Entries → Onward
climb q right l [] = told q
climb q right l (es ∷ ess) = visit right (seek q (visit right) l) es (climb q right (suc l) ess)

-- ---- a stack of inner nodes: what is left to visit of each, for some keys from which they hold keys
abbrev pub rests : Bool → List Turn → (ℕ → ℕ) → List Entries
rests right [] lows = []
rests right (b ∷ bs) lows = rest right b.at (entries_of b.node (lows 0)) ∷ rests right bs (λ i. lows (suc i))

-- the inner nodes above a level, up to the top
pub record Stacked (top : ℕ) (path : List Turn) (level : ℕ) : Type 0 where
  pub high : top ≤ highest_level
  pub size : length path ≡ level_count
  pub good : All (trail path level (top - level))

-- what is left above a level
abbrev pub above : Search → Bool → ℕ → List Turn → ℕ → (ℕ → ℕ) → Onward
above q right top path level lows = climb q right level (rests right (trail path level (top - level)) lows)

-- the plan that goes on at a child of that level
abbrev pub onto : Search → Bool → ℕ → List Turn → ℕ → ℕ → ℕ → (ℕ → ℕ) → Onward
onto q right top path level name lo lows = seek q (visit right) level lo name (above q right top path level lows)

-- ---- how much is left to read: 16 to the level for each node of a level
unfoldable pub times : ℕ → ℕ → ℕ
times zero p = 0
times (suc r) p = p + times r p

unfoldable pub pow : ℕ → ℕ
pow zero = 1
pow (suc l) = times 16 (pow l)

abbrev pub left_in : Bool → Turn → ℕ
left_in right b = cond right (b.node.count - b.at) b.at

unfoldable pub load : Bool → ℕ → List Turn → ℕ
load right l [] = 0
load right l (b ∷ bs) = times (left_in right b) (pow l) + load right (suc l) bs

unfoldable pub weight : Bool → ℕ → List Turn → ℕ → ℕ
weight right top path level = pow level + load right level (trail path level (top - level))

-- what is ahead: the child to be read next, its name and its level, with the inner nodes above it
pub record Heading : Type 0 where
  pub path : List Turn
  pub level : ℕ
  pub name : ℕ

-- as the code has it, over a part of the bytes b
abbrev pub heading_of : List ℕ → Ahead → Heading
heading_of b a = record { path = turns_in b a.path; level = a.level; name = a.name }

-- if there is anything
abbrev pub heading : List ℕ → Option Ahead → Option Heading
heading b a = option_map (heading_of b) a

-- where the climb comes to, if there is a branch
pub record Climbed (right : Bool) (top : ℕ) (path : List Turn) (level : ℕ) (a : Option Heading) : Type 0 where
  pub lo : (ℕ → ℕ) → ℕ
  pub lows : (ℕ → ℕ) → ℕ → ℕ
  pub ends : a ≡ None → (q : Search) (f : ℕ → ℕ) → above q right top path level f ≡ told q
  pub next : (h : Heading) → a ≡ Some h → (q : Search) (f : ℕ → ℕ) → above q right top path level f ≡ onto q right top h.path h.level h.name (lo f) (lows f)
  pub stacked : (h : Heading) → a ≡ Some h → Stacked top h.path h.level
  pub below : (h : Heading) → a ≡ Some h → h.level < top
  pub lighter : (h : Heading) → a ≡ Some h → weight right top h.path h.level ≤ load right level (trail path level (top - level))

-- ---- on from a leaf with the pairs got, to those got then
pub record Past (w : Wish) (top : ℕ) (path : List Turn) (n : Node) (got : Entries) (a : Option Heading) (got' : Entries) : Type 0 where
  pub lo : (ℕ → ℕ) → ℕ
  pub lows : (ℕ → ℕ) → ℕ → ℕ
  pub ends : a ≡ None → (j : ℕ) (f : ℕ → ℕ) → let q = search_of w in
      enough q (above q (to_right w.sought) top path 0 f) (got ++ q.in_leaf (entries_of n j)) ≡ told q got'
  pub next : (h : Heading) → a ≡ Some h → (j : ℕ) (f : ℕ → ℕ) → let q = search_of w in
      enough q (above q (to_right w.sought) top path 0 f) (got ++ q.in_leaf (entries_of n j))
      ≡ onto q (to_right w.sought) top h.path h.level h.name (lo f) (lows f) got'
  pub stacked : (h : Heading) → a ≡ Some h → Stacked top h.path h.level
  pub below : (h : Heading) → a ≡ Some h → h.level < top
  pub lighter : (h : Heading) → a ≡ Some h → weight (to_right w.sought) top h.path h.level ≤ load (to_right w.sought) 0 (trail path 0 (top - 0))

-- ---- on from an inner node n of a level: its first child comes next
unfoldable pub first_child : Bool → List Turn → ℕ → ℕ → Node → Heading
first_child right path level name n =
    let at = first_at right n.count in
    record { path = set path level (record { name = name; at = at; node = n }); level = level - 1; name = get_or n.slots at 0 }

-- ---- on from a node below the root that was read
pub record Standing (n : Node) (level top : ℕ) : Type 0 where
  pub whole : Whole n
  pub small : SmallNode n
  pub opened : opens n ≡ true
  pub level_is : n.level ≡ level
  pub below : level < top

-- what a plan does with its entries
unfoldable pub read_on : Search → Bool → ℕ → Entries → Onward → Onward
read_on q right zero es on found = enough q on (found ++ q.in_leaf es)
read_on q right (suc l) es on found = visit right (seek q (visit right) l) es on found

abbrev pub afterwards : Wish → ℕ → List Turn → ℕ → Node → ℕ → (ℕ → ℕ) → Onward
afterwards w top path level n j f =
    read_on (search_of w) (to_right w.sought) level (entries_of n j) (above (search_of w) (to_right w.sought) top path level f)

pub record Advanced (w : Wish) (top : ℕ) (path : List Turn) (level : ℕ) (n : Node) (got : Entries) (a : Option Heading) (got' : Entries) : Type 0 where
  pub lo : ℕ → (ℕ → ℕ) → ℕ
  pub lows : ℕ → (ℕ → ℕ) → ℕ → ℕ
  pub ends : a ≡ None → (j : ℕ) (f : ℕ → ℕ) → afterwards w top path level n j f got ≡ told (search_of w) got'
  pub next : (h : Heading) → a ≡ Some h → (j : ℕ) (f : ℕ → ℕ)
      → afterwards w top path level n j f got ≡ onto (search_of w) (to_right w.sought) top h.path h.level h.name (lo j f) (lows j f) got'
  pub stacked : (h : Heading) → a ≡ Some h → Stacked top h.path h.level
  pub below : (h : Heading) → a ≡ Some h → h.level < top
  pub lighter : (h : Heading) → a ≡ Some h → weight (to_right w.sought) top h.path h.level < weight (to_right w.sought) top path level

-- ---- a child read, and where it leads
pub record ReadOn (slots : ℕ) (m : ClientWord → ℕ) (u : List ℕ) (w : Wish) (top : ℕ) (path : List Turn) (level name : ℕ) (got : Entries) (s : Course) (a : Option Heading) (u' : List ℕ) (got' : Entries) : Type 0 where
  pub node : Node
  pub asks : (j : ℕ) (f : ℕ → ℕ) → walked slots m (onto (search_of w) (to_right w.sought) top path level name j f got) (used_in u)
      ≡ carry s (used_in u') (λ us. walked slots m (afterwards w top path level node j f got) us)
  pub noted : Noted m u'
  pub long : length u' ≡ length u
  pub leads : goes s ≡ true → Advanced w top path level node got a got'

-- ---- the answer by the pairs got
pub record Tells (m : ClientWord → ℕ) (u : List ℕ) (w : Wish) (got : Entries) (s : Course) (u' : List ℕ) : Type 0 where
  pub same : (slots : ℕ) → walked slots m (told (search_of w) got) (used_in u) ≡ ended s (used_in u') [] (pairs_told w got)
  pub noted : Noted m u'

-- ---- the leaves on that side, from a child on, with the pairs ps of the answer
pub record Seeks (slots : ℕ) (m : ClientWord → ℕ) (u : List ℕ) (w : Wish) (top : ℕ) (path : List Turn) (level name : ℕ) (got : Entries) (s : Course) (u' : List ℕ) (ps : Entries) : Type 0 where
  pub same : (j : ℕ) (f : ℕ → ℕ) → walked slots m (onto (search_of w) (to_right w.sought) top path level name j f got) (used_in u) ≡ ended s (used_in u') [] ps
  pub noted : Noted m u'

-- ---- the leaves on that side, from one with the path to it on
pub record FromLeaf (slots : ℕ) (m : ClientWord → ℕ) (u : List ℕ) (w : Wish) (top : ℕ) (path : List Turn) (n : Node) (got : Entries) (s : Course) (u' : List ℕ) (ps : Entries) : Type 0 where
  pub same : (j : ℕ) (f : ℕ → ℕ) → let q = search_of w in
      walked slots m (enough q (above q (to_right w.sought) top path 0 f) (got ++ q.in_leaf (entries_of n j))) (used_in u) ≡ ended s (used_in u') [] ps
  pub noted : Noted m u'

-- ---- a plan that writes nothing, walked from the start, with no copy in use
pub record Afresh (slots : ℕ) (m : ClientWord → ℕ) (p : TreePlan) (s : Course) (u' : List ℕ) (ps : Entries) : Type 0 where
  pub same : walked slots m p [] ≡ ended s (used_in u') [] ps
  pub noted : Noted m u'

-- ---- over what the walk is lent: the branches of its path, and where it is heading
abbrev pub turns_of : LentList → List Pass → List Turn
turns_of part path = turns_in part.entry.now path

abbrev pub headed : LentList → Option Ahead → Option Heading
headed part a = heading part.entry.now a

abbrev pub heads : LentList → Ahead → Heading
heads part a = heading_of part.entry.now a

-- on from the node at a place, which was ahead
abbrev pub Advances : LentList → LentMut → Wish → ℕ → Ahead → ℕ → Option Ahead → Type 0
Advances part found w top ahead place next =
    Advanced w top (turns_of part ahead.path) ahead.level (lent_node part place) (lent_pairs found) (headed part next) (left_pairs found)

-- the nearest of the pairs found
abbrev pub TellsNearest : LentList → LentMut → LentList → Course → Type 0
TellsNearest part used found s =
    let p = nearest (pairs_in found.entry.now) in Ends (held part.entry.now) used.entry.now p.0 p.1 s used.exit.now

-- the child ahead is read
abbrev pub ReadsOn : ℕ → LentList → LentMut → LentMut → Wish → ℕ → Ahead → Result (Option Ahead) Stop → Type 0
ReadsOn slots part used found w top ahead next =
    over_read ReadOn slots part used w top (turns_of part ahead.path) ahead.level ahead.name (lent_pairs found)
    (course next) (headed part (ok_or None next)) used.exit.now (left_pairs found)

-- the leaves from the child ahead on
abbrev pub SeeksOn : ℕ → LentList → LentMut → LentMut → Wish → ℕ → Ahead → Course → Type 0
SeeksOn slots part used found w top ahead s =
    over_read Seeks slots part used w top (turns_of part ahead.path) ahead.level ahead.name (lent_pairs found) s used.exit.now (left_told w found)

-- the leaves from one at a place on
abbrev pub SeeksFrom : ℕ → LentList → LentMut → LentMut → Wish → ℕ → List Pass → ℕ → Course → Type 0
SeeksFrom slots part used found w top path leaf s =
    over_read FromLeaf slots part used w top (turns_of part path) (lent_node part leaf) (lent_pairs found) s used.exit.now (left_told w found)

-- the whole search, with the pairs of its answer
abbrev pub Searches : ℕ → LentList → LentMut → LentMut → Wish → Course → Type 0
Searches slots part used found w s = over_read Walks slots part used (search_plan w) s used.exit.now (left_told w found)

-- what the search is lent at its start: no copy is in use, and no pair found
abbrev pub Starting : List ℕ → List ℕ → Wish → List ℕ → Type 0
Starting part used w found = Walking part used × (get_or used 0 0 ≡ 0) × Roomy w.wanted found × (get_or found 0 0 ≡ 0)
