-- Two neighbours after one key has moved over, or merged.
use Rattle.std.specs.Prelude.{Bool, cond, ℕ}
use Rattle.nodes.specs.declared.node.Node.{Node}
use Rattle.nodes.specs.declared.change.Halves.{Halves}
use Rattle.nodes.specs.Change.{merged, from_right, from_left}

-- what two neighbours hold when one key has moved from m to n, and what the two hold in one; m is the left one where n is the last child
unfoldable pub lent : Bool → Node → ℕ → Node → Halves
lent last n sep m = cond last (from_left m sep n) (from_right n sep m)

unfoldable pub joined : Bool → Node → ℕ → Node → Node
joined last n sep m = cond last (merged m sep n) (merged n sep m)
