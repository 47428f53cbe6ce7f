-- Ways out of the code for handing out: from the facts at hand there to what the contract says.
use mathlib.Core.Path.{◌≡◌, refl, ap, ◌∙◌}
use mathlib.Core.Bool.{Bool}
use mathlib.Core.List.{List}
use Prim.Native.Nat.{ℕ, ◌+◌, ◌/◌, ◌≤◌, ◌<◌}
use native.Mathlib.Omega.{arith}
use lib.ListN.{length, take, drop}
use Rattle.memory.specs.Word.{view}
use Rattle.memory.proofs.Laws.Word.{view_length}
use Rattle.layout.specs.Block.{size, In, offset}
use Rattle.layout.specs.Space.{at, Valid, mem}
use Rattle.layout.proofs.Laws.Space.{Run, mem_run}
use Rattle.nodes.specs.Stored.{node_of, node_at}
use Rattle.nodes.specs.declared.node.Node as node
use Rattle.server.specs.declared.place.Place.{Place}
use Rattle.server.specs.declared.place.Place.TheVariants.{Root, Version, States, Vector, Node}
use Rattle.nodes.specs.States.{metadata_fits}
use Rattle.server.specs.declared.hand_out.Metadata.{Metadata}
use Rattle.server.specs.Layout.{places, server_block, part_words, Lies}
use Rattle.server.specs.Laws.Layout.{node_run, node_room, node_valid, root_valid, version_valid, states_valid}
use Rattle.server.specs.HandOut.{metadata_at, metadata_sound, vector_at, node_here}

module _ (m : Place → ℕ) where
  pub metadata_got : (x v w : ℕ) → x ≡ m Root → v ≡ m Version → w ≡ m States → record { root = x; version = v; states = w } ≡ metadata_at m
  unfolding metadata_at
  metadata_got x v w p q h = rw (p, q, h)

  pub sound_as_read : (slots : ℕ) (d : Metadata) (r : Bool) → d ≡ metadata_at m → r ≡ metadata_fits slots d.root d.states d.version → r ≡ metadata_sound slots m
  unfolding metadata_sound metadata_at
  sound_as_read slots d r h q = q ∙ ap (λ (x : Metadata). metadata_fits slots x.root x.states x.version) h

vector_run : (n : ℕ) → Run places (server_block n) Vector 4 16
unfolding at Valid In offset size
vector_run n = record { good = λ i l. l; spot = λ i l. refl }

pub vector_got : (n : ℕ) (s ws : List ℕ) → part_words n ≤ length s / 8 → ws ≡ take 16 (drop 4 (view s)) → ws ≡ vector_at (mem places (server_block n) (view s))
unfolding vector_at part_words size
vector_got n s ws l e = e ∙ mem_run places (server_block n) 16 (view s) Vector 4 (vector_run n) (omega (arith, view_length s))

pub node_got : (n k i : ℕ) (s : List ℕ) (r : node.Node) → k < n → part_words n ≤ length s / 8 → Lies n (Node k 0) i → r ≡ node_at (view s) i
    → r ≡ node_here k (mem places (server_block n) (view s))
unfolding node_here node_at
node_got n k i s r h l e q =
    let f : at places (server_block n) (Node k 0) + 33 ≤ length (view s) =
    omega (arith, view_length s, node_room n k (at places (server_block n) (Node k 0)) (length s / 8) h (record { spot = refl; within = rw (← e.spot) e.within }) l) in
    q ∙ rw e.spot (ap node_of (mem_run places (server_block n) 33 (view s) (Node k) (at places (server_block n) (Node k 0)) (node_run n k h) f))

pub vector_room : (n l : ℕ) → part_words n ≤ l → 4 + 16 ≤ l
unfolding part_words size
vector_room n l h = omega arith

pub ruleset hand_out_exits = (
  metadata_got,
  sound_as_read,
  vector_got,
  vector_room,
  node_got,
  node_room,
  node_valid,
  root_valid,
  version_valid,
  states_valid,
)
