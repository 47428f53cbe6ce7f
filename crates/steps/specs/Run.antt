-- A newly opened store, and the memory after a step.
use Rattle.std.specs.Prelude.{List, ◌∷◌, ℕ}
use Rattle.layout.specs.Space.{Put, put, changed}
use Rattle.layout.specs.Part.{over}
use Rattle.nodes.specs.Bounds.{most_servers}
use Rattle.steps.specs.declared.sizes.Sizes.{Sizes}
use Rattle.steps.specs.declared.step.Step.{Step}
use Rattle.steps.specs.Whole.{Address, head, server, whole}
use Rattle.steps.specs.Steps.{at_servers, by_rule}
use Rattle.server.specs.Fresh as Fresh

-- the stores of an opening: the three sizes in the head, the servers' states, and "the root, an empty leaf, in node 0"
abbrev pub first_stores : Sizes → List (Put Address)
first_stores z =
    put (head 0) z.servers ∷ put (head 1) z.slots ∷ put (head 2) z.clients
    ∷ at_servers most_servers (λ s. over (server s) (Fresh.fresh_stores z.servers s))

-- a new store: zeros, then these
unfoldable pub opened : Sizes → Address → ℕ
opened z = changed whole (λ a. 0) (first_stores z)

-- what stands at the addresses after a step that is not refused by 12
abbrev pub after : Sizes → (Address → ℕ) → Step → Address → ℕ
after z m k = changed whole m (by_rule z k m).stores
