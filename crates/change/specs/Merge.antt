-- Two neighbours merged: the right one is freed, and the parent goes up without it, or as the root takes over the contents.
use Rattle.std.specs.Prelude.{◌≡◌, Bool, true, ◌&&◌, List, ◌∷◌, ℕ, suc, eqb, get_or, Result}
use Rattle.nodes.specs.declared.node.Node.{Node}
use Rattle.nodes.specs.Entries.{entries_of}
use Rattle.operations.specs.Object.{node, Ans, Writes}
use Rattle.operations.specs.Slot.{release}
use Rattle.operations.specs.Path.{TreePlan, Branch}
use Rattle.operations.specs.Change.{Go, merged}
use Rattle.walk.specs.declared.down.Turn.{Turn}
use Rattle.change.specs.declared.neighbour.Sides.{Sides}
use Rattle.change.specs.declared.rise.Risen.{Risen}
use Rattle.walk.specs.declared.walk.Stop.{Stop}
use Rattle.walk.specs.declared.walk.Answer.{Answer}
use Rattle.client.specs.Layout.{ClientWord}
use Rattle.client.specs.Record.{in_store, value_of}
use Rattle.walk.specs.Down.{Followed}
use Rattle.change.specs.Rise.{was_done, OfLevel, Raised}
use Rattle.change.specs.Beside.{pair_of, Paired}
use Rattle.plans.specs.Plan as P

-- ---- the two neighbours that a parent's arrays have
pub record Between (b : Turn) (s : Sides) : Type 0 where
  pub paired : Paired b.node.count b.at s.at s.last
  pub left : s.left ≡ get_or b.node.slots s.at 0
  pub right : s.right ≡ get_or b.node.slots (suc s.at) 0

-- they and the parent are in the store
pub record Neighbours (slots : ℕ) (b : Turn) (s : Sides) : Type 0 where
  pub followed : Followed b
  pub there : in_store slots b.name ≡ true
  pub between : Between b s
  pub left : in_store slots s.left ≡ true
  pub right : in_store slots s.right ≡ true

-- the branch to them, where the parent holds keys from lo on
abbrev pub pair_in : Turn → Sides → ℕ → Branch
pair_in b s lo = pair_of b.name s.at (entries_of b.node lo)

-- ---- a root that takes over its only child's contents
unfoldable pub collapse_plan : Ans → ℕ → ℕ → Node → ℕ → List Branch → Writes → Go → TreePlan
collapse_plan a root c one lo fs w go = release w c (λ w'. P.done (a, (node root, value_of (node root) one) ∷ w'))

pub record Collapses (slots : ℕ) (m : ClientWord → ℕ) (x u : List ℕ) (a : Ans) (root c : ℕ) (one : Node) (r : Result Answer Stop) (x' u' : List ℕ) : Type 0 where
  pub raised : (l : ℕ) (top : Bool) → Raised slots m x u l top (collapse_plan a root c one) (was_done r) x' u'

-- ---- two neighbours in one
-- does a parent with so many keys lose its last one as the root?
unfoldable pub collapses : Bool → ℕ → Bool
collapses root count = root && eqb count 1

unfoldable pub merge_plan : Ans → ℕ → Turn → Sides → Node → ℕ → List Branch → Writes → Go → TreePlan
merge_plan a l b s one lo fs w go =
    let f = pair_in b s lo in
    release w s.right (λ w'. merged a l fs go w' f s.left (entries_of one f.key))

pub record Merges (slots : ℕ) (m : ClientWord → ℕ) (x u : List ℕ) (root : Bool) (a : Ans) (b : Turn) (s : Sides) (one : Node) (r : Result Risen Stop) (x' u' : List ℕ) : Type 0 where
  pub raised : (l : ℕ) → b.node.level ≡ suc l → OfLevel l one → Raised slots m x u l root (merge_plan a l b s one) r x' u'
