-- Printed lines tried on closed examples.
use Rattle.std.specs.Prelude.{◌≡◌, refl, [], ◌∷◌}
use Rattle.text.specs.Print.{digits_within, decimal, field, step_line, store_line}

-- `3 2 1 0`, `12 3 0 18446744073709551615`
pub line_samples : (step_line 3 2 1 0 ≡ 51 ∷ 32 ∷ 50 ∷ 32 ∷ 49 ∷ 32 ∷ 48 ∷ 10 ∷ [])
    × (step_line 12 3 0 18446744073709551615
    ≡ 49 ∷ 50 ∷ 32 ∷ 51 ∷ 32 ∷ 48 ∷ 32
    ∷ 49 ∷ 56 ∷ 52 ∷ 52 ∷ 54 ∷ 55 ∷ 52 ∷ 52 ∷ 48 ∷ 55 ∷ 51 ∷ 55 ∷ 48 ∷ 57 ∷ 53 ∷ 53 ∷ 49 ∷ 54 ∷ 49 ∷ 53 ∷ 10 ∷ [])
    × (store_line 1 4 1 ≡ 115 ∷ 116 ∷ 111 ∷ 114 ∷ 101 ∷ 32 ∷ 49 ∷ 32 ∷ 52 ∷ 32 ∷ 49 ∷ 10 ∷ [])
unfolding step_line store_line field decimal digits_within
line_samples = (refl, refl, refl)
