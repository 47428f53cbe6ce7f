-- How many nodes a tree has at least, and that there are no more than slots: no root of level 5.
use Rattle.std.specs.Prelude.{◌≡◌, List, [], ◌∷◌, ℕ, zero, suc, ◌+◌, ◌<◌, ◌≤◌, length}
use Rattle.std.proofs.Common.{ap, sym, subst, arith}
use Rattle.std.proofs.Math.Decide.{ℕ_discrete, dec_lt}
use Rattle.operations.specs.Object.{Val}
use Rattle.operations.specs.Entry.{fewest_entries, first_key_or}
use Rattle.operations.specs.Chain.{one, Chain, tally}
use Rattle.operations.proofs.Laws.Chain.{one_same}
use Rattle.operations.specs.Tree.{Slot, cnt, Entry}

-- f 0 + .. + f (n - 1)
sum : ℕ → (ℕ → ℕ) → ℕ
sum zero f = 0
sum (suc n) f = sum n f + f n

sum_le : (n : ℕ) (f : ℕ → ℕ) → ((x : ℕ) → f x ≤ 1) → sum n f ≤ n
unfolding sum
sum_le zero f h = omega arith
sum_le (suc n) f h = omega (arith, sum_le n f h, h n)

sum_add : (n : ℕ) (f g : ℕ → ℕ) → sum n (λ x. f x + g x) ≡ sum n f + sum n g
unfolding sum
sum_add zero f g = omega arith
sum_add (suc n) f g = omega (arith, sum_add n f g)

sum_one : (n c : ℕ) → c < n → 1 ≤ sum n (one c)
unfolding sum
sum_one zero c h = absurd (omega (arith, h))
sum_one (suc n) c h = go (ℕ_discrete n c) (sum_one n c)
  where
    go : Dec (n ≡ c) → (c < n → 1 ≤ sum n (one c)) → 1 ≤ sum n (one c) + one c n
    go (yes e) r = omega (arith, subst (λ z. one c z ≡ 1) (sym e) (one_same c))
    go (no e) r = omega (arith, r (omega (arith, h, e)))

abbrev times : ℕ → ℕ → ℕ
times zero k = 0
times (suc n) k = k + times n k

times_mono : (a b k : ℕ) → a ≤ b → times a k ≤ times b k
times_mono zero b k h = omega arith
times_mono (suc a) zero k h = absurd (omega (arith, h))
times_mono (suc a) (suc b) k h = omega (arith, times_mono a b k (omega (arith, h)))

-- nodes of an entry of level l
abbrev pub fewest : ℕ → ℕ
fewest zero = 0
fewest (suc l) = suc (times (fewest_entries l) (fewest l))

chain_sum : {A : Type 0} (P : ℕ → ℕ → A → Type 0) (c : A → ℕ → ℕ) (cap k : ℕ)
    → ((a b : ℕ) (s : A) → P a b s → ((x : ℕ) → cap ≤ x → c s x ≡ 0) → k ≤ sum cap (c s))
    → (b : ℕ) (es : List (ℕ × A)) → Chain P b es → ((x : ℕ) → cap ≤ x → tally c es x ≡ 0) → times (length es) k ≤ sum cap (tally c es)
chain_sum P c cap k f b [] h g = omega arith
chain_sum P c cap k f b (e ∷ es) h g =
    omega (
      arith,
      f e.0 (first_key_or es b) e.1 h.0 (λ x i. omega (arith, g x i)),
      chain_sum P c cap k f b es h.1 (λ x i. omega (arith, g x i)),
      sum_add cap (c e.1) (tally c es),
    )

entry_sum : (N : ℕ → Val) (cap l a b : ℕ) (s : Slot l) → Entry N l a b s → ((x : ℕ) → cap ≤ x → cnt l s x ≡ 0) → fewest l ≤ sum cap (cnt l s)
entry_sum N cap zero a b s h g = omega arith
entry_sum N cap (suc l) a b s h g =
    omega (
      arith,
      chain_sum (Entry N l) (cnt l) cap (fewest l) (λ a b t. entry_sum N cap l a b t) b s.1 h.segs (λ x i. omega (arith, g x i)),
      times_mono (fewest_entries l) (length s.1) (fewest l) h.least,
      sum_one cap s.0 (here (dec_lt s.0 cap)),
      sum_add cap (one s.0) (tally (cnt l) s.1),
    )
  where
    here : Dec (s.0 < cap) → s.0 < cap
    here (yes p) = p
    here (no p) = absurd (omega (arith, g s.0 (omega (arith, p)), one_same s.0))

-- sixteen entries of level 4 have more nodes than there are slots
pub no_fifth : (N : ℕ → Val) (cap l b : ℕ) (es : List (ℕ × Slot l)) → cap ≤ 8192 → l ≡ 4 → length es ≡ 16 → Chain (Entry N l) b es
    → ((x : ℕ) → tally (cnt l) es x ≤ 1) → ((x : ℕ) → cap ≤ x → tally (cnt l) es x ≡ 0) → ⊥
no_fifth N cap l b es c e n h f g =
    absurd (omega (
      arith,
      chain_sum (Entry N l) (cnt l) cap (fewest l) (λ a b t. entry_sum N cap l a b t) b es h g,
      sum_le cap (tally (cnt l) es) f,
      ap (λ i. times i (fewest l)) n,
      ap fewest e,
      c,
    ))
