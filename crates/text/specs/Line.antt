-- "A line is 3 or 6 unsigned 64-bit numbers in decimal, parted by one space; any other .. prints `bad`": bytes without the newline. A bad line
-- is None.
use Rattle.std.specs.Prelude.{Bool, true, false, cond, ◌&&◌, List, [], ◌∷◌, map, ℕ, ◌+◌, ◌*◌, ◌-◌, ◌^◌, eqb, leb, ltb, length, get_or, Option, Some, None}
use Rattle.text.specs.declared.read.Line.{Line}
use Rattle.text.specs.declared.read.Line.TheVariants.{Sizes, Step}

-- "parted by one space": the pieces before, between and after the spaces (byte 32)
abbrev pub onto_first : ℕ → List (List ℕ) → List (List ℕ)
onto_first b [] = (b ∷ []) ∷ []
onto_first b (p ∷ ps) = (b ∷ p) ∷ ps

unfoldable pub pieces : List ℕ → List (List ℕ)
pieces [] = [] ∷ []
pieces (b ∷ bs) = cond (eqb b 32) ([] ∷ pieces bs) (onto_first b (pieces bs))

-- "in decimal": the bytes 48 to 57 are the digits 0 to 9, and digits put behind a number v make it larger tenfold
abbrev pub digit? : ℕ → Bool
digit? b = leb 48 b && leb b 57

unfoldable pub digits? : List ℕ → Bool
digits? [] = true
digits? (b ∷ p) = digit? b && digits? p

unfoldable pub value_from : ℕ → List ℕ → ℕ
value_from v [] = v
value_from v (b ∷ p) = value_from (10 * v + (b - 48)) p

abbrev pub value : List ℕ → ℕ
value p = value_from 0 p

-- "unsigned 64-bit numbers": one or more digits, and the value is below 2^64
abbrev pub some? : List ℕ → Bool
some? [] = false
some? (b ∷ p) = true

unfoldable pub number? : List ℕ → Bool
number? p = some? p && digits? p && ltb (value p) (2 ^ 64)

unfoldable pub numbers? : List (List ℕ) → Bool
numbers? [] = true
numbers? (p ∷ ps) = number? p && numbers? ps

-- "3 or 6": the three sizes, or the six fields of a step
unfoldable pub of_numbers : List ℕ → Option Line
of_numbers n =
    cond (eqb (length n) 3) (Some (Sizes (get_or n 0 0) (get_or n 1 0) (get_or n 2 0)))
    (cond (eqb (length n) 6) (Some (Step (get_or n 0 0) (get_or n 1 0) (get_or n 2 0) (get_or n 3 0) (get_or n 4 0) (get_or n 5 0))) None)

unfoldable pub line_of : List ℕ → Option Line
line_of bytes = cond (numbers? (pieces bytes)) (of_numbers (map value (pieces bytes))) None
