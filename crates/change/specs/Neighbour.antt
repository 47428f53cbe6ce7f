-- A node left with 6 keys turns to a neighbour: the two at hand, and the way to them.
use Rattle.std.specs.Prelude.{◌≡◌, Bool, List, ℕ, suc, ◌≤◌, get_or, Result}
use Rattle.nodes.specs.declared.node.Node.{Node}
use Rattle.nodes.specs.Entries.{entries_of}
use Rattle.operations.specs.Object.{Ans, Writes}
use Rattle.operations.specs.Path.{TreePlan, Branch}
use Rattle.operations.specs.Change.{Go}
use Rattle.walk.specs.declared.down.Turn.{Turn}
use Rattle.change.specs.declared.neighbour.Sides.{Sides}
use Rattle.change.specs.declared.rise.Risen.{Risen}
use Rattle.walk.specs.declared.walk.Stop.{Stop}
use Rattle.client.specs.Layout.{ClientWord}
use Rattle.change.specs.Rise.{OfLevel, Raised}
use Rattle.change.specs.Beside.{own_side, far_side, evened}
use Rattle.change.specs.Merge.{pair_in}
use Rattle.client.specs.Bounds.{fewest_keys}

-- ---- with both at hand: n turns to k
unfoldable pub even_plan : Ans → ℕ → Turn → Sides → Node → Node → ℕ → List Branch → Writes → Go → TreePlan
even_plan a l b s n k lo fs w go =
    let f = pair_in b s lo in
    let sep = get_or b.node.keys s.at 0 in
    evened a l fs go s.last w f s.left s.right (entries_of n (own_side s.last f.key sep)) (entries_of k (far_side s.last f.key sep))

pub record Evens (slots : ℕ) (m : ClientWord → ℕ) (x u : List ℕ) (root : Bool) (a : Ans) (b : Turn) (s : Sides) (n k : Node) (r : Result Risen Stop) (x' u' : List ℕ) : Type 0 where
  pub raised : (l : ℕ) → b.node.level ≡ suc l → OfLevel l n → OfLevel l k → fewest_keys ≤ k.count → Raised slots m x u l root (even_plan a l b s n k) r x' u'
