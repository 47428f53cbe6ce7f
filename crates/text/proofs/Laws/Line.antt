-- Lines tried on closed examples.
use Rattle.std.specs.Prelude.{◌≡◌, refl, [], ◌∷◌, Some, None}
use Rattle.text.specs.declared.read.Line.TheVariants.{Sizes}
use Rattle.text.specs.Line.{pieces, digits?, value_from, number?, numbers?, of_numbers, line_of}

-- `1 04 1` is sizes; `1  4 1`, `1 4 1 `, `1 4` and the empty line are bad
pub line_samples : (line_of (49 ∷ 32 ∷ 48 ∷ 52 ∷ 32 ∷ 49 ∷ []) ≡ Some (Sizes 1 4 1))
    × (line_of (49 ∷ 32 ∷ 32 ∷ 52 ∷ 32 ∷ 49 ∷ []) ≡ None)
    × (line_of (49 ∷ 32 ∷ 52 ∷ 32 ∷ 49 ∷ 32 ∷ []) ≡ None)
    × (line_of (49 ∷ 32 ∷ 52 ∷ []) ≡ None)
    × (line_of [] ≡ None)
unfolding line_of numbers? number? digits? value_from pieces of_numbers
line_samples = (refl, refl, refl, refl, refl)
