-- Migrate, walked.
use Rattle.std.specs.Prelude.{ℕ, get_or}
use Rattle.nodes.specs.declared.node.Node.{Node}
use Rattle.operations.specs.Object.{node, object}
use Rattle.operations.specs.Path.{TreePlan}
use Rattle.operations.specs.Migrate.{move_below, move_if}
use Rattle.client.specs.Record.{value_of}
use Rattle.plans.specs.Plan as P

-- ---- "in the order metadata, a migrated node"
-- the node of the name nm, where the metadata has the root top and these states of the servers
unfoldable pub named_plan : ℕ → ℕ → ℕ → ℕ → ℕ → TreePlan
named_plan slots states top nm s = P.ask (object (node nm)) (λ v. move_if slots states top nm s v)

-- ---- the node n of that name, where it is not the root: down to its parent by its first key
abbrev pub below_plan : ℕ → ℕ → ℕ → ℕ → Node → TreePlan
below_plan slots top nm s n = move_below slots top nm s (value_of (node nm) n) n.level (get_or n.keys 0 0)
