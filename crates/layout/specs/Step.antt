-- A step is its list of stores, as a function of what stands at the addresses. The same function is cited by the code's
-- contract, by the step of the whole memory, and by the machine over decoded state.
use Rattle.std.specs.Prelude.{◌≡◌, List, ◌++◌, ℕ}
use Rattle.layout.specs.Block.{Block}
use Rattle.layout.specs.Space.{Coding, Put, mem, changed, stored}

-- the words after a step
unfoldable pub stepped : {A : Type 0} → Coding A → Block → ((A → ℕ) → List (Put A)) → List ℕ → List ℕ
stepped C b g w = stored C b w (g (mem C b w))

-- code with words w before and w' after does step g and answers r as ans says: the form of a contract
pub record Does {A R : Type 0} (C : Coding A) (b : Block) (g : (A → ℕ) → List (Put A)) (ans : (A → ℕ) → R) (w : List ℕ) (r : R) (w' : List ℕ) : Type 0 where
  pub answer : r ≡ ans (mem C b w)
  pub words : w' ≡ stepped C b g w

-- the answer of code that has none
abbrev pub silent : {A : Type 0} → (A → ℕ) → ℕ
silent m = 0

module _ {A : Type 0} (C : Coding A) where
  -- one step, and then another on what the first left
  unfoldable pub and_then : ((A → ℕ) → List (Put A)) → ((A → ℕ) → List (Put A)) → (A → ℕ) → List (Put A)
  and_then g h m = g m ++ h (changed C m (g m))
