-- 2^64 as a number, and that it is not 0.
use Rattle.std.specs.Prelude.{◌≡◌, refl, ℕ, ◌^◌, ◌<◌}
use Rattle.std.proofs.Common.{arith}
use Rattle.operations.specs.Map.{two_to_64, Op, insert, lookup, delete, next, previous, migrate, list}

pub HIs : two_to_64 ≡ 2 ^ 64
unfolding two_to_64
HIs = refl

pub HPos : 0 < two_to_64
unfolding two_to_64
HPos = omega arith

abbrev pub number : Op → ℕ
number (insert k v) = 1
number (lookup k) = 2
number (delete k) = 3
number (next k) = 4
number (previous k) = 5
number (migrate n s) = 6
number (list k n) = 7
