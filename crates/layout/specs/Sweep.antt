-- A loop of steps: step 0, step 1, .., as one list of stores.
use Rattle.std.specs.Prelude.{List, [], ℕ, zero, suc}
use Rattle.layout.specs.Space.{Coding, Put}
use Rattle.layout.specs.Step.{and_then}

module _ {A : Type 0} (C : Coding A) where
  -- steps g 0, .. , g (k - 1), one after the other
  unfoldable pub sweep : (ℕ → (A → ℕ) → List (Put A)) → ℕ → (A → ℕ) → List (Put A)
  sweep g zero m = []
  sweep g (suc k) m = and_then C (sweep g k) (g k) m
