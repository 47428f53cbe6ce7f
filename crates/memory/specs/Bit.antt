-- The bits of a word, as a set of numbers: bit i is set where i is in the set.
use Rattle.std.specs.Prelude.{Bool, ℕ, zero, suc, ◌+◌, ◌*◌, ◌/◌, ◌%◌, eqb}
use Rattle.base.specs.Test.{one_if}

-- is bit i set
unfoldable pub bit : ℕ → ℕ → Bool
bit w zero = eqb (w % 2) 1
bit w (suc i) = bit (w / 2) i

-- the word with b as bit i
unfoldable pub put_bit : Bool → ℕ → ℕ → ℕ
put_bit b w zero = w / 2 * 2 + one_if b
put_bit b w (suc i) = put_bit b (w / 2) i * 2 + w % 2
