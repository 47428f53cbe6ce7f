-- Each row of the placement table names every server once, proved by one test that is computed.
use Rattle.std.specs.Prelude.{◌≡◌, Bool, ◌&&◌, ℕ, ◌<◌, eqb, get_or}
use Rattle.std.specs.Int.Bits.{bit_xor}
use Rattle.std.proofs.lemmas.Nat.{xor_lt}
use Rattle.std.proofs.Common.{eqb→eq}
use Rattle.nodes.specs.Placement.{row}
use Rattle.nodes.proofs.Laws.Small.{both, at₂}
use Rattle.nodes.specs.Placed.{times}

-- the entry i of row s is s xor i, and the row names server i once
abbrev placed? : ℕ → ℕ → Bool
placed? s i = eqb (get_or (row s) i 0) (bit_xor s i) && eqb (times i (row s)) 1

pub placement : (s i : ℕ) → s < 8 → i < 8 → (get_or (row s) i 0 ≡ bit_xor s i) × (times i (row s) ≡ 1)
placement s i hs hi =
    let t = both (eqb (get_or (row s) i 0) (bit_xor s i)) (eqb (times i (row s)) 1) (at₂ placed? 8 8 tt s i hs hi) in
    (eqb→eq (get_or (row s) i 0) (bit_xor s i) t.0, eqb→eq (times i (row s)) 1 t.1)

pub row_below : (s i r : ℕ) → (s < 8) × (i < 8) → r ≡ get_or (row s) i 0 → r < 8
row_below s i r h e = rw (e, (placement s i h.0 h.1).0) (xor_lt 3 s i h.0 h.1)
