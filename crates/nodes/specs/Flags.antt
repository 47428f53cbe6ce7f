-- The taken flags of a server's slots as bits of words, 64 in each word, lowest first.
use Rattle.std.specs.Prelude.{ℕ, zero, suc, ◌/◌, ◌%◌, Bool, List, [], ◌∷◌, ◌++◌, take, get_or, set, eqb}
use Rattle.std.proofs.Math.Option.{Option, none, some}
use Rattle.memory.specs.Bit.{put_bit}

-- the n lowest bits of a word
unfoldable pub bits : ℕ → ℕ → List Bool
bits zero x = []
bits (suc n) x = eqb (x % 2) 1 ∷ bits n (x / 2)

-- the flags that words hold, 64 in each
unfoldable pub all_flags : List ℕ → List Bool
all_flags [] = []
all_flags (w ∷ ws) = bits 64 w ++ all_flags ws

-- the flags of that many slots
unfoldable pub flags_in : ℕ → List ℕ → List Bool
flags_in slots ws = take slots (all_flags ws)

-- n where there is none
abbrev pub otherwise : ℕ → Option ℕ → ℕ
otherwise n none = n
otherwise n (some i) = i

-- the words with a slot's flag replaced
unfoldable pub with_flag : List ℕ → ℕ → Bool → List ℕ
with_flag ws slot b = set ws (slot / 64) (put_bit b (get_or ws (slot / 64) 0) (slot % 64))
