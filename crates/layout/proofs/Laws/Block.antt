-- No two places of a block overlap (`apart`), and all lie within it (`below`): proved once for every block.
use Rattle.std.specs.Prelude.{◌≡◌, refl, List, [], ◌∷◌, ℕ, zero, suc, ◌+◌, ◌-◌, ◌*◌, ◌≤◌, ◌<◌}
use Rattle.std.proofs.Common.{ap, ap₂, suc-mul, mul-le-mul_right, arith}
use Rattle.std.proofs.Math.Decide.{dec_lt}
use Rattle.layout.specs.Block.{Block, words, times, followed_by, end, size, In, offset, step}

-- three words, then two rows of four: the last word of the second row is the eleventh, at 10
pub offset_sample : let b = followed_by (words 3) (followed_by (times 2 (words 4)) end) in (size b ≡ 11) × (offset b (1 ∷ 1 ∷ 3 ∷ []) ≡ 10)
unfolding size offset
offset_sample = (refl, refl)

-- the one law on products: a row that comes earlier ends before a later one begins
pub row_fits : (i j t : ℕ) → i < j → i * t + t ≤ j * t
row_fits i j t h = rw (← suc-mul i t) (mul-le-mul_right t h)

row_same : (i j t o q : ℕ) → o < t → q < t → i * t + o ≡ j * t + q → i ≡ j
row_same i j t o q ho hq e = go (dec_lt i j) (dec_lt j i)
  where
    go : Dec (i < j) → Dec (j < i) → i ≡ j
    go (yes p) y = absurd (omega (arith, row_fits i j t p))
    go (no p) (yes y) = absurd (omega (arith, row_fits j i t y))
    go (no p) (no y) = omega arith

-- a place lies in its block
pub below : (b : Block) (p : List ℕ) → In b p → offset b p < size b
unfolding size In offset
below (words n) [] h = absurd h
below (words n) (i ∷ []) h = h
below (words n) (i ∷ j ∷ p) h = absurd h
below (times n b) [] h = absurd h
below (times n b) (i ∷ p) h = omega (arith, row_fits i n (size b) h.0, below b p h.1)
below (followed_by a b) [] h = absurd h
below (followed_by a b) (zero ∷ p) h = omega (arith, below a p h)
below (followed_by a b) (suc i ∷ p) h = omega (arith, below b (i ∷ p) h)
below end p h = absurd h

cons : {x y : ℕ} {p q : List ℕ} → x ≡ y → p ≡ q → ◌≡◌ {A = List ℕ} (x ∷ p) (y ∷ q)
cons a b = ap₂ (λ (x : ℕ) (p : List ℕ). x ∷ p) a b

-- places with one offset are one place
pub apart : (b : Block) (p q : List ℕ) → In b p → In b q → offset b p ≡ offset b q → p ≡ q
unfolding size In offset
apart (words n) [] q h g e = absurd h
apart (words n) (i ∷ j ∷ p) q h g e = absurd h
apart (words n) (i ∷ []) [] h g e = absurd g
apart (words n) (i ∷ []) (j ∷ []) h g e = cons e refl
apart (words n) (i ∷ []) (j ∷ k ∷ q) h g e = absurd g
apart (times n b) [] q h g e = absurd h
apart (times n b) (i ∷ p) [] h g e = absurd g
apart (times n b) (i ∷ p) (j ∷ q) h g e =
    let s : i ≡ j = row_same i j (size b) (offset b p) (offset b q) (below b p h.1) (below b q g.1) e in
    let t : i * size b ≡ j * size b = rw s in
    cons s (apart b p q h.1 g.1 (omega arith))
apart (followed_by a b) [] q h g e = absurd h
apart (followed_by a b) (zero ∷ p) [] h g e = absurd g
apart (followed_by a b) (zero ∷ p) (zero ∷ q) h g e = cons refl (apart a p q h g e)
apart (followed_by a b) (zero ∷ p) (suc j ∷ q) h g e = absurd (omega (arith, below a p h))
apart (followed_by a b) (suc i ∷ p) [] h g e = absurd g
apart (followed_by a b) (suc i ∷ p) (zero ∷ q) h g e = absurd (omega (arith, below a q g))
apart (followed_by a b) (suc i ∷ p) (suc j ∷ q) h g e = ap step (apart b (i ∷ p) (j ∷ q) h g (omega arith))
apart end p q h g e = absurd h
