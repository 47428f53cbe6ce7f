-- Lists of entries (key, thing), as leaves and inner nodes share them: chains up to a bound, counts of names, and what the entries hold.
use Rattle.std.specs.Prelude.{List, [], ◌∷◌, ◌++◌, map, ℕ, ◌+◌}
use Rattle.std.proofs.Math.Decide.{ℕ_discrete}
use Rattle.base.specs.Test.{ifd}
use Rattle.operations.specs.Entry.{first_key_or}

-- 1 at n, else 0
abbrev pub one : ℕ → ℕ → ℕ
one n x = ifd (ℕ_discrete x n) 1 0

module _ {A : Type 0} where
  -- each entry with its key and the key that follows
  abbrev pub Chain : (ℕ → ℕ → A → Type 0) → ℕ → List (ℕ × A) → Type 0
  Chain P b [] = Unit {0}
  Chain P b (e ∷ es) = P e.0 (first_key_or es b) e.1 × Chain P b es

  abbrev pub tally : (A → ℕ → ℕ) → List (ℕ × A) → ℕ → ℕ
  tally c [] x = 0
  tally c (e ∷ es) x = c e.1 x + tally c es x

  abbrev pub gather : {B : Type 0} → (ℕ → A → List B) → List (ℕ × A) → List B
  gather f [] = []
  gather f (e ∷ es) = f e.0 e.1 ++ gather f es

-- the same entries with other things
module _ {A B : Type 0} (w : A → B) where
  abbrev pub ren : List (ℕ × A) → List (ℕ × B)
  ren es = map (λ e. (e.0, w e.1)) es
