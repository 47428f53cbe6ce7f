-- "s xor 0, s xor 1, .. s xor 7": the rows of the placement table are these, and each names every server once.
use Rattle.std.specs.Prelude.{List, [], ◌∷◌, ℕ, ◌+◌, eqb}
use Rattle.base.specs.Test.{one_if}

-- how often x is named in a list
abbrev pub times : ℕ → List ℕ → ℕ
times x [] = 0
times x (y ∷ l) = one_if (eqb x y) + times x l
