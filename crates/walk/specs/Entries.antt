-- The code's nodes beside the entries that plans speak of.
use Rattle.std.specs.Prelude.{◌≡◌, Bool, true, false, cond, ℕ, suc, ◌≤◌, ◌<◌, ltb, leb, eqb, take, drop, get_or}
use Rattle.nodes.specs.declared.node.Node.{Node}
use Rattle.operations.specs.Entry.{Entries}
use Rattle.operations.specs.Path.{Branch}
use Rattle.client.specs.Bounds.{fewest_keys}

-- "the root is free, a child is free": a leaf or an inner node, with a level of its kind
abbrev pub opens_with : ℕ → ℕ → Bool
opens_with kind level = cond (eqb kind 1) (eqb level 0) (cond (eqb kind 2) (ltb 0 level) false)

unfoldable pub opens : Node → Bool
opens n = opens_with n.kind n.level

-- "a child is free or not exactly one level lower, a node used below the root has under 7 keys"
abbrev pub below_with : ℕ → ℕ → ℕ → ℕ → Bool
below_with l kind level count = cond (opens_with kind level) (cond (eqb level l) (leb fewest_keys count) false) false

unfoldable pub below : ℕ → Node → Bool
below l n = cond (opens n) (cond (eqb n.level l) (leb fewest_keys n.count) false) false

pub record Inner (n : Node) : Type 0 where
  pub kind : n.kind ≡ 2
  pub level : 0 < n.level

-- an inner node on the path, followed at its entry number i
unfoldable pub branch_of : ℕ → ℕ → Entries → Branch
branch_of n i es = record { nm = n; key = (get_or es i (0, 0)).0; pre = take i es; post = drop (suc i) es }

pub record Below (l : ℕ) (n : Node) : Type 0 where
  pub opened : opens n ≡ true
  pub level : n.level ≡ l
  pub enough : fewest_keys ≤ n.count
