-- What a server hands out for a fetch, and when it is out of range (refusal 10).
use Rattle.std.specs.Prelude.{Bool, List, ℕ}
use Rattle.layout.specs.Space.{tab}
use Rattle.nodes.specs.Stored.{node_of}
use Rattle.server.specs.declared.hand_out.Metadata.{Metadata}
use Rattle.server.specs.declared.place.Place.{Place}
use Rattle.server.specs.declared.place.Place.TheVariants.{Root, Version, States, Vector, Node}
use Rattle.nodes.specs.States.{metadata_fits}
use Rattle.nodes.specs.declared.node.Node as node

-- the metadata that a server has
unfoldable pub metadata_at : (Place → ℕ) → Metadata
metadata_at m = record { root = m Root; version = m Version; states = m States }

-- refusal 10: is it in range
unfoldable pub metadata_sound : ℕ → (Place → ℕ) → Bool
metadata_sound slots m = metadata_fits slots (m Root) (m States) (m Version)

-- the sixteen words of its vector
unfoldable pub vector_at : (Place → ℕ) → List ℕ
vector_at m = tab 16 (λ i. m (Vector i))

-- the node in slot k of this server
unfoldable pub node_here : ℕ → (Place → ℕ) → node.Node
node_here k m = node_of (tab 33 (λ j. m (Node k j)))
