-- Types of addresses, each address with a place in a block; memory as a function of addresses.
use Rattle.std.specs.Prelude.{◌≡◌, Bool, true, false, ◌&&◌, cond, List, [], ◌∷◌, ℕ, zero, suc, eqb, get_or, set}
use Rattle.base.specs.Test.{ifd}
use Rattle.layout.specs.Block.{Block, In, dec_in, offset}

-- are two places the same; where the numbers of two families differ, this computes
abbrev pub same : List ℕ → List ℕ → Bool
same [] [] = true
same [] (j ∷ q) = false
same (i ∷ p) [] = false
same (i ∷ p) (j ∷ q) = eqb i j && same p q

-- f 0, f 1, .. , n of them
unfoldable pub tab : ℕ → (ℕ → ℕ) → List ℕ
tab zero f = []
tab (suc n) f = f 0 ∷ tab n (λ i. f (suc i))

-- a type of addresses: each has a place, and each place tells an address
pub record Coding (A : Type 0) : Type 0 where
  pub code : A → List ℕ
  pub back : List ℕ → A

-- each address can be had back from its place
abbrev pub ReadsBack : {A : Type 0} → Coding A → Type 0
ReadsBack C = (a : _) → C.back (C.code a) ≡ a

-- a store: an address and a value
pub data Put (A : Type 0) : Type 0 where
  put : A → ℕ → Put A

module _ {A : Type 0} (C : Coding A) where
  -- the function with the value v at a, and at each address that has a's place; it computes where the places do, so that closed
  -- examples are decided by `refl`
  unfoldable pub written : (A → ℕ) → A → ℕ → A → ℕ
  written m a v x = cond (same (C.code x) (C.code a)) v (m x)

  -- a list of stores, in order
  unfoldable pub changed : (A → ℕ) → List (Put A) → A → ℕ
  changed m [] = m
  changed m (put a v ∷ ps) = changed (written m a v) ps

  -- a record: stores at f 0, f 1, ..
  unfoldable pub puts : (ℕ → A) → List ℕ → List (Put A)
  puts f [] = []
  puts f (v ∷ vs) = put (f 0) v ∷ puts (λ i. f (suc i)) vs

  module _ (b : Block) where
    -- the word at which an address lies
    unfoldable pub at : A → ℕ
    at a = offset b (C.code a)

    -- the address has a place in the block
    unfoldable pub Valid : A → Type 0
    Valid a = In b (C.code a)

    -- whether it has one can be decided
    pub valid? : (a : A) → Dec (Valid a)
    unfolding Valid
    valid? a = dec_in b (C.code a)

    -- the words as a function of addresses. 0 where an address is not valid: no step comes to that, since sizes, client, server and
    -- names are tested before anything there is read
    unfoldable pub mem : List ℕ → A → ℕ
    mem w a = ifd (valid? a) (get_or w (at a) 0) 0

    -- a list of stores on words
    unfoldable pub stored : List ℕ → List (Put A) → List ℕ
    stored w [] = w
    stored w (put a v ∷ ps) = stored (set w (at a) v) ps
