-- "Each slot has a taken flag; a server's flags are its vector." Here a vector is the list of its flags, true for taken.
use Rattle.std.specs.Prelude.{Bool, true, false, List, [], ◌∷◌, ℕ, suc, ◌+◌, drop}
use Rattle.std.proofs.Math.Option.{Option, none, some}

-- counted from further on
abbrev pub shifted : ℕ → Option ℕ → Option ℕ
shifted k none = none
shifted k (some i) = some (k + i)

-- the lowest free slot
abbrev pub lowest_free : List Bool → Option ℕ
lowest_free [] = none
lowest_free (false ∷ fs) = some 0
lowest_free (true ∷ fs) = shifted 1 (lowest_free fs)

-- the first if there is one, else the second
abbrev pub or_else : Option ℕ → Option ℕ → Option ℕ
or_else none y = y
or_else (some x) y = some x

-- the lowest free slot from the slot a on
abbrev pub free_from : ℕ → List Bool → Option ℕ
free_from a fs = shifted a (lowest_free (drop a fs))

-- "it takes the first free slot above the split node's slot number, going round"
unfoldable pub first_free : ℕ → List Bool → Option ℕ
first_free slot fs = or_else (free_from (suc slot) fs) (lowest_free fs)
