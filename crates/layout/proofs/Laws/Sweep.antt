-- A loop of steps, turn by turn.
use Rattle.std.proofs.Math.Path.{refl}
use Rattle.std.specs.Prelude.{List, length}
use Prim.Native.Nat.{ℕ, zero, suc, ◌+◌, ◌≤◌, ◌<◌}
use Rattle.std.proofs.Common.{arith, add-one}
use Rattle.layout.specs.Block.{Block, size}
use Rattle.layout.specs.Space.{Coding, Put, mem, changed, stored}
use Rattle.layout.proofs.Laws.Space.{AllValid}
use Rattle.layout.specs.Step.{Does, stepped, silent, and_then}
use Rattle.layout.proofs.Laws.Step.{does_then, valid_append}
use Rattle.layout.specs.Sweep.{sweep}

module _ {A : Type 0} (C : Coding A) where
  module _ (b : Block) (g : ℕ → (A → ℕ) → List (Put A)) where
    pub sweep_valid : (k : ℕ) (m : A → ℕ) → ((j : ℕ) (u : A → ℕ) → j < k → AllValid C b (g j u)) → AllValid C b (sweep C g k m)
    unfolding sweep and_then AllValid
    sweep_valid zero m ok = tt
    sweep_valid (suc k) m ok =
        valid_append C b (sweep C g k m) (g k (changed C m (sweep C g k m))) (sweep_valid k m (λ j u l. ok j u (omega arith))) (ok k (changed C m (sweep C g k m)) (omega arith))

    -- before the loop, and after one more turn
    pub sweep_none : (w : List ℕ) → Does C b (sweep C g 0) silent w 0 w
    unfolding stepped stored sweep
    sweep_none w = record { answer = refl; words = refl }

    pub sweep_next : (k : ℕ) (w w₁ w₂ : List ℕ) → size b ≤ length w → ((j : ℕ) (u : A → ℕ) → j < k → AllValid C b (g j u))
        → Does C b (sweep C g k) silent w 0 w₁ → Does C b (g k) silent w₁ 0 w₂ → Does C b (sweep C g (k + 1)) silent w 0 w₂
    unfolding sweep stepped
    sweep_next k w w₁ w₂ l ok p q =
        let d = does_then C b (sweep C g k) (g k) silent silent w w₁ w₂ 0 0 l (sweep_valid k (mem C b w) ok) p q in
        rw (add-one k) (record { answer = refl; words = d.words })
