-- The finding that decides, tried on closed examples.
use Rattle.std.specs.Prelude.{◌≡◌, refl, [], ◌∷◌}
use Rattle.steps.specs.Uses.{least, deciding}

-- of a node that differs and a flag that is busy the node decides
pub deciding_sample : deciding ((8200, 2) ∷ (4, 0) ∷ (7, 1) ∷ []) ≡ 1
unfolding deciding least
deciding_sample = refl
