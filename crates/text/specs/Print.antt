-- What is printed: numbers in decimal, and the lines of document 01, each with its newline (byte 10).
use Rattle.std.specs.Prelude.{◌≡◌, cond, List, [], ◌∷◌, ◌++◌, ℕ, zero, suc, ◌+◌, ◌/◌, ◌%◌, ltb, length}
use Rattle.std.proofs.lemmas.List.Edits.{sets}

-- a number's decimal digits, of which there are at most k, in bytes
unfoldable pub digits_within : ℕ → ℕ → List ℕ
digits_within zero n = []
digits_within (suc k) n = cond (ltb n 10) ((48 + n) ∷ []) (digits_within k (n / 10) ++ ((48 + n % 10) ∷ []))

-- a number below 2^64 has at most 20
unfoldable pub decimal : ℕ → List ℕ
decimal n = digits_within 20 n

-- a number and the byte that ends it
unfoldable pub field : ℕ → ℕ → List ℕ
field n end = decimal n ++ (end ∷ [])

-- "Fields: step from 0, outcome, a, b."
unfoldable pub step_line : ℕ → ℕ → ℕ → ℕ → List ℕ
step_line step outcome a b = field step 32 ++ field outcome 32 ++ field a 32 ++ field b 10

-- `store 1 4 1`: "Accepted sizes come first."
unfoldable pub store_line : ℕ → ℕ → ℕ → List ℕ
store_line servers slots clients =
    (115 ∷ 116 ∷ 111 ∷ 114 ∷ 101 ∷ 32 ∷ []) ++ field servers 32 ++ field slots 32 ++ field clients 10

-- "Sizes refused by 2 print `store refused 2`"
abbrev pub refused_line : List ℕ
refused_line =
    115 ∷ 116 ∷ 111 ∷ 114 ∷ 101 ∷ 32 ∷ 114 ∷ 101 ∷ 102 ∷ 117 ∷ 115 ∷ 101 ∷ 100 ∷ 32 ∷ 50 ∷ 10 ∷ []

-- "prints `bad`"
abbrev pub bad_line : List ℕ
bad_line = 98 ∷ 97 ∷ 100 ∷ 10 ∷ []

-- a buffer out with a line printed from index at on; the line ends before r
pub record Printed (out : List ℕ) (at : ℕ) (line : List ℕ) (out' : List ℕ) (r : ℕ) : Type 0 where
  pub bytes : out' ≡ sets out at line
  pub end : r ≡ at + length line
