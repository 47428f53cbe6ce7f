-- Steps one after another, as lists of stores.
use Rattle.std.specs.Prelude.{◌≡◌, ℕ, ◌≤◌, length, set}
use Rattle.std.proofs.Math.Path.{refl, sym, ap}
use Rattle.std.proofs.Common.{◌∙◌}
use mathlib.Core.List.{List, [], ◌∷◌, ◌++◌}
use Rattle.layout.specs.Block.{Block, size}
use Rattle.layout.specs.Space.{Coding, Put, put, at, mem, changed, stored}
use Rattle.layout.proofs.Laws.Space.{AllValid, mem_stored}
use Rattle.layout.specs.Step.{stepped, Does, silent, and_then}

-- what code did, as a change of the function of addresses
pub does_mem : {A R : Type 0} (C : Coding A) (b : Block) (g : (A → ℕ) → List (Put A)) (ans : (A → ℕ) → R) (w : List ℕ) (r : R) (w' : List ℕ)
    → Does C b g ans w r w' → size b ≤ length w → AllValid C b (g (mem C b w)) → mem C b w' ≡ changed C (mem C b w) (g (mem C b w))
unfolding stepped
does_mem C b g ans w r w' h l ok = ap (mem C b) h.words ∙ mem_stored C b (g (mem C b w)) w l ok

-- code that does one step does every step with the same stores there
pub does_as : {A R : Type 0} (C : Coding A) (b : Block) (g h : (A → ℕ) → List (Put A)) (ans : (A → ℕ) → R) (w : List ℕ) (r : R) (w' : List ℕ)
    → g (mem C b w) ≡ h (mem C b w) → Does C b g ans w r w' → Does C b h ans w r w'
unfolding stepped
does_as C b g h ans w r w' e d = record { answer = d.answer; words = d.words ∙ ap (stored C b w) e }

module _ {A : Type 0} (C : Coding A) where
  pub changed_append : (ps qs : List (Put A)) (m : A → ℕ) → changed C m (ps ++ qs) ≡ changed C (changed C m ps) qs
  unfolding changed
  changed_append [] qs m = refl
  changed_append (put a v ∷ ps) qs m = changed_append ps qs _

  module _ (b : Block) where
    pub stored_append : (ps qs : List (Put A)) (w : List ℕ) → stored C b w (ps ++ qs) ≡ stored C b (stored C b w ps) qs
    unfolding stored
    stored_append [] qs w = refl
    stored_append (put a v ∷ ps) qs w = stored_append ps qs (set w (at C b a) v)

    -- two steps whose stores do not depend on what stands there
    pub does_both : (ps qs : List (Put A)) (w w₁ w₂ : List ℕ)
        → Does C b (λ m. ps) silent w 0 w₁ → Does C b (λ m. qs) silent w₁ 0 w₂ → Does C b (λ m. ps ++ qs) silent w 0 w₂
    unfolding stepped
    does_both ps qs w w₁ w₂ p q =
        record { answer = refl; words = q.words ∙ ap (λ (u : List ℕ). stored C b u qs) p.words ∙ sym (stored_append ps qs w) }

    pub valid_append : (ps qs : List (Put A)) → AllValid C b ps → AllValid C b qs → AllValid C b (ps ++ qs)
    unfolding AllValid
    valid_append [] qs p q = q
    valid_append (put a v ∷ ps) qs p q = (p.0, valid_append ps qs p.1 q)

    pub does_then : {R S : Type 0} (g h : (A → ℕ) → List (Put A)) (x : (A → ℕ) → R) (y : (A → ℕ) → S) (w w₁ w₂ : List ℕ) (r : R) (s : S)
        → size b ≤ length w → AllValid C b (g (mem C b w)) → Does C b g x w r w₁ → Does C b h y w₁ s w₂
        → Does C b (and_then C g h) (λ m. y (changed C m (g m))) w s w₂
    unfolding stepped and_then
    does_then g h x y w w₁ w₂ r s l ok p q =
        let e : mem C b w₁ ≡ changed C (mem C b w) (g (mem C b w)) = does_mem C b g x w r w₁ p l ok in
        record {
          answer = q.answer ∙ ap y e;
          words = q.words ∙ ap (λ (m : A → ℕ). stored C b w₁ (h m)) e
              ∙ ap (λ (u : List ℕ). stored C b u (h (changed C (mem C b w) (g (mem C b w))))) p.words
              ∙ sym (stored_append (g (mem C b w)) (h (changed C (mem C b w) (g (mem C b w)))) w);
        }
