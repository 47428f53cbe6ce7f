-- The parent of a moved node: found from the root by the node's first key, and written with the new name.
use Rattle.std.specs.Prelude.{◌≡◌, true, List, [], ◌∷◌, ◌++◌, ℕ, suc, ◌-◌, take, drop, get_or}
use Rattle.std.proofs.Math.Decide.{dec_lt}
use Rattle.base.specs.Test.{ifd}
use Rattle.nodes.specs.declared.node.Node.{Node}
use Rattle.nodes.specs.Entries.{entries_of}
use Rattle.nodes.specs.Kept.{Whole}
use Rattle.operations.specs.Object.{node, Val, no_tree}
use Rattle.operations.specs.Entry.{Entries, node_value}
use Rattle.operations.specs.Path.{TreePlan, Branch, Cont, down, at_root}
use Rattle.operations.specs.Migrate.{moved, move_at, to_level}
use Rattle.client.specs.Layout.{ClientWord}
use Rattle.client.specs.Record.{in_store, value_of}
use Rattle.client.specs.Lent.{LentList, LentMut, used_in}
use Rattle.walk.specs.Entries.{opens}
use Rattle.walk.specs.Walk.{Course, goes, walked, carry}
use Rattle.walk.specs.Ask.{SmallNode, Noted, over_lent, lent_node}
use Rattle.walk.specs.Down.{Arrival, branches, trail, low}
use Rattle.change.specs.Operated.{Operated}
use Rattle.plans.specs.Plan as P

-- ---- the statements
-- an inner node one level above l, and its name
pub record Parent (slots l up : ℕ) (p : Node) : Type 0 where
  pub whole : Whole p
  pub small : SmallNode p
  pub opened : opens p ≡ true
  pub level : p.level ≡ suc l
  pub there : in_store slots up ≡ true

-- "the path downward" from the root of the name top to the level above l
pub record ToParent (slots : ℕ) (m : ClientWord → ℕ) (u : List ℕ) (key top l : ℕ) (d : Arrival) (u' : List ℕ) : Type 0 where
  pub asks : (k : Cont)
      → walked slots m (at_root top (λ j es. ifd (dec_lt l j) (down (to_level (suc l)) key k j [] top es) (P.fail no_tree))) (used_in u)
      ≡ carry d.course (used_in u') (λ us. walked slots m
      (k (suc l) (branches (trail d.path (suc l) (d.top - suc l))) d.name (entries_of d.node (low (trail d.path (suc l) (d.top - suc l))))) us)
  pub noted : Noted m u'
  pub parent : goes d.course ≡ true → Parent slots l d.name d.node

-- a parent's entries with the name d for its child number i
abbrev pub with_child : Entries → ℕ → ℕ → Entries
with_child es i d = take i es ++ ((get_or es i (0, 0)).0, d) ∷ drop (suc i) es

-- the plan of a move with that write
abbrev pub child_plan : ℕ → ℕ → ℕ → Val → ℕ → ℕ → ℕ → Entries → TreePlan
child_plan slots nm s v up l at es = moved slots nm s v (λ d w. w) (λ d w. P.done ((1, d, []), (node up, node_value l (with_child es at d)) ∷ w))

-- "Migrate moves a node .. and changes the parent": the node n of the name nm, child number at of p
pub record ChildMoved (slots : ℕ) (m : ClientWord → ℕ) (x u : List ℕ) (nm s : ℕ) (n : Node) (up : ℕ) (p : Node) (at : ℕ) (st : Course) (x' u' : List ℕ) : Type 0 where
  pub operated : (lo : ℕ) → Operated slots m x u (child_plan slots nm s (value_of (node nm) n) up p.level at (entries_of p lo)) st x' u'

-- "isn't met at its level going down from the root by its first key": at the parent
pub record MovedAt (slots : ℕ) (m : ClientWord → ℕ) (x u : List ℕ) (key nm s : ℕ) (n : Node) (up : ℕ) (p : Node) (st : Course) (x' u' : List ℕ) : Type 0 where
  pub operated : (fs : List Branch) (lo : ℕ) → Operated slots m x u (move_at slots nm s (value_of (node nm) n) key p.level fs up (entries_of p lo)) st x' u'

-- as a contract promises it, of the parent that stands at a place of the lent part
abbrev pub MovesAt : ℕ → LentList → LentMut → LentMut → ℕ → ℕ → ℕ → Node → ℕ → ℕ → Course → Type 0
MovesAt slots part own used key nm s n up place st =
    over_lent MovedAt slots part own used key nm s n up (lent_node part place) st own.exit.now used.exit.now
