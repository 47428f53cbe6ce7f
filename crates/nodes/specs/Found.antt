-- The place of something looked for, as the code answers it.
use Rattle.std.specs.Prelude.{ℕ, ◌<◌, ◌≡◌, Option, Some, None}
use Rattle.std.proofs.Math.Option as math

-- a place, or none
abbrev pub Found : Type 0
Found = Option ℕ

-- the same, from what the definitions have
unfoldable pub found : math.Option ℕ → Found
found math.none = None
found (math.some i) = Some i

-- a place that was found is below the end
pub record Inside (f : Found) (end : ℕ) : Type 0 where
  pub inside : (i : ℕ) → f ≡ Some i → i < end
