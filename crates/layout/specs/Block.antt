-- Blocks of words, nested. A place in a block is a list of numbers, one for each level.
use Rattle.std.specs.Prelude.{List, [], ◌∷◌, ℕ, zero, suc, ◌+◌, ◌-◌, ◌*◌, ◌<◌}
use mathlib.Core.Logic.Dec
use Rattle.std.proofs.Math.Decide.{dec_lt}

-- words in nested blocks, which cannot overlap
pub data Block : Type 0 where
  -- n words; a place is k ∷ []
  words : ℕ → Block
  -- n equal blocks; a place is i ∷ place in the block
  times : ℕ → Block → Block
  -- a block and those that follow it; a place is 0 ∷ place in the first, or 1 + i ∷ .. for i ∷ .. in those that follow
  followed_by : Block → Block → Block
  end : Block

-- how many words a block has
unfoldable pub size : Block → ℕ
size (words n) = n
size (times n b) = n * size b
size (followed_by a b) = size a + size b
size end = 0

-- is a list of numbers a place of the block
unfoldable pub In : Block → List ℕ → Type 0
In (words n) [] = ⊥
In (words n) (i ∷ []) = i < n
In (words n) (i ∷ j ∷ p) = ⊥
In (times n b) [] = ⊥
In (times n b) (i ∷ p) = (i < n) × In b p
In (followed_by a b) [] = ⊥
In (followed_by a b) (zero ∷ p) = In a p
In (followed_by a b) (suc i ∷ p) = In b (i ∷ p)
In end p = ⊥

-- the word at which a place lies, counted from the start of the block. Of what is no place it says nothing, and it is not asked:
-- what is read is tested first (`mem`), and stores go to places only
unfoldable pub offset : Block → List ℕ → ℕ
offset (words n) [] = 0
offset (words n) (i ∷ p) = i
offset (times n b) [] = 0
offset (times n b) (i ∷ p) = i * size b + offset b p
offset (followed_by a b) [] = 0
offset (followed_by a b) (zero ∷ p) = offset a p
offset (followed_by a b) (suc i ∷ p) = size a + offset b (i ∷ p)
offset end p = 0

-- one block further on
abbrev pub step : List ℕ → List ℕ
step [] = []
step (i ∷ p) = suc i ∷ p

-- whether a list is a place of the block can be decided
pub dec_in : (b : Block) (p : List ℕ) → Dec (In b p)
unfolding In
dec_in (words n) [] = no (λ h. h)
dec_in (words n) (i ∷ []) = dec_lt i n
dec_in (words n) (i ∷ j ∷ p) = no (λ h. h)
dec_in (times n b) [] = no (λ h. h)
dec_in (times n b) (i ∷ p) = Dec.and (dec_lt i n) (dec_in b p)
dec_in (followed_by a b) [] = no (λ h. h)
dec_in (followed_by a b) (zero ∷ p) = dec_in a p
dec_in (followed_by a b) (suc i ∷ p) = dec_in b (i ∷ p)
dec_in end p = no (λ h. h)
