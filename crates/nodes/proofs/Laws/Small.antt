-- A claim on small numbers, proved at all of them by one test that is computed.
use Rattle.std.proofs.Common.{subst, sym, ⊎_elim, eq-or-lt_of_le, le_of_suc-le-suc, arith}
use Rattle.std.specs.Prelude.{Bool, true, false, ◌&&◌, ℕ, zero, suc, ◌<◌, T}

pub both : (a b : Bool) → T (a && b) → T a × T b
both true b t = (tt, t)
both false b t = absurd t

-- the test passes at each number below n
abbrev pub below : (ℕ → Bool) → ℕ → Bool
below f zero = true
below f (suc n) = f n && below f n

at : (f : ℕ → Bool) (n : ℕ) → T (below f n) → (k : ℕ) → k < n → T (f k)
at f zero t k h = absurd (omega arith)
at f (suc n) t k h =
    ⊎_elim (λ e. subst (λ (m : ℕ). T (f m)) (sym e) (both (f n) (below f n) t).0) (λ l. at f n (both (f n) (below f n) t).1 k l)
    (eq-or-lt_of_le (le_of_suc-le-suc h))

-- at each pair of numbers below m and n
pub at₂ : (f : ℕ → ℕ → Bool) (m n : ℕ) → T (below (λ i. below (f i) n) m) → (i j : ℕ) → i < m → j < n → T (f i j)
at₂ f m n t i j h k = at (f i) n (at (λ i. below (f i) n) m t i h) j k
