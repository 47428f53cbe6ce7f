-- Laws of the layout: places that are there; a node's words lie one after another.
use Rattle.std.specs.Prelude.{◌≡◌, refl, ℕ, ◌+◌, ◌/◌, ◌≤◌, ◌<◌}
use Rattle.std.proofs.Common.{arith}
use Rattle.layout.specs.Block.{size, offset, In}
use Rattle.layout.specs.Space.{at, Valid}
use Rattle.server.specs.declared.place.Place.TheVariants.{NodeLock, Root, Version, States, Vector, Node}
use Rattle.server.specs.Layout.{server_block, places, part_words, Lies}
use Rattle.layout.proofs.Laws.Space.{Run}

-- with four slots, 220 words; the lock of node 2 × 1,024 + 1 is the third of the locks in row 1
pub layout_sample : (part_words 4 ≡ 220) × (at places (server_block 4) (NodeLock 2 1) ≡ 114)
unfolding part_words size at offset
layout_sample = (refl, refl)

-- places that every part has
pub root_valid : (n : ℕ) → Valid places (server_block n) Root
unfolding Valid In
root_valid n = omega arith

pub version_valid : (n : ℕ) → Valid places (server_block n) Version
unfolding Valid In
version_valid n = omega arith

pub states_valid : (n : ℕ) → Valid places (server_block n) States
unfolding Valid In
states_valid n = omega arith

pub vector_valid : (n k : ℕ) → k < 1024 → Valid places (server_block n) (Vector (k / 64))
unfolding Valid In
vector_valid n k h = omega arith

pub node_valid : (n k : ℕ) → k < n → Valid places (server_block n) (Node k 0)
unfolding Valid In
node_valid n k h = (h, omega arith)

-- the words of a node lie one after another
pub node_run : (n k : ℕ) → k < n → Run places (server_block n) (Node k) (at places (server_block n) (Node k 0)) 33
unfolding at Valid In offset size
node_run n k h = record { good = λ j l. (h, l); spot = λ j l. omega arith }

pub node_room : (n k i l : ℕ) → k < n → Lies n (Node k 0) i → part_words n ≤ l → i + 33 ≤ l
unfolding at offset size part_words
node_room n k i l h e g = omega (arith, e.spot)
