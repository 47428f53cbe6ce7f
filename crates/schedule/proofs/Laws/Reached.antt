-- A list of steps goes on from whatever was reached.
use Rattle.std.specs.Prelude.{◌≡◌, refl, ℕ, length}
use Rattle.std.proofs.Math.Path.{subst}
use mathlib.Core.List.{List, [], ◌∷◌, ◌++◌, append_assoc, append-nil}
use Rattle.memory.specs.Word.{view}
use Rattle.plans.specs.Walk.{Every}
use Rattle.steps.specs.declared.sizes.Sizes.{Sizes}
use Rattle.steps.specs.declared.step.Step.{Step}
use Rattle.steps.specs.declared.outcome.Outcome.{Outcome}
use Rattle.steps.specs.Refusal.{open_refusal}
use Rattle.steps.specs.Taken.{Words, Taken, came_to}
use Rattle.engine.specs.Step.{outcome_of, words_after, output_after}
use Rattle.engine.specs.Reached.{Reached, GoesOn}
use Rattle.engine.specs.Laws.Reached.{At, next_at, of_bytes, as_bytes}
use Rattle.schedule.specs.Listed.{words_run, taken_run, taken_on}

module _ (z : Sizes) (n room : ℕ) (ok : open_refusal n z ≡ 0) where
  run_at : (ks : List Step) (h : List Taken) (w out : List ℕ) → At z n ok h w → Every Words ks → At z n ok (h ++ taken_run n room w out ks) (words_run n room w ks)
  unfolding taken_run words_run Every
  run_at [] h w out a e = rw append-nil a
  run_at (k ∷ ks) h w out a e =
      let w' = words_after n w room k in
      let out' = output_after n w room k out in
      let t = came_to k room out (outcome_of n w room k) out' in
      subst (λ (x : List Taken). At z n ok x (words_run n room w' ks)) (append_assoc h (t ∷ []) (taken_run n room w' out' ks))
      (run_at ks (h ++ t ∷ []) w' out' (next_at z n ok h w a k room out out' e.0 refl) e.1)

pub run_goes_on : (b b' out : List ℕ) (ks : List Step) → Every Words ks → length b' ≡ length b → view b' ≡ words_run (length b) (length out) (view b) ks
    → GoesOn b (taken_on b out ks) b'
unfolding GoesOn
run_goes_on b b' out ks words e q z h r =
    as_bytes z (length b) r.accepted (h ++ taken_on b out ks) (words_run (length b) (length out) (view b) ks) b' e q
    (run_at z (length b) (length out) r.accepted ks h (view b) (view out) (of_bytes z h b r) words)

-- no step goes on from what was reached, and one list of steps after another
pub none_goes_on : (b : List ℕ) → GoesOn b [] b
unfolding GoesOn
none_goes_on b z h r = rw append-nil r

pub then_goes_on : (b b₁ b₂ : List ℕ) (ts us : List Taken) → GoesOn b ts b₁ → GoesOn b₁ us b₂ → GoesOn b (ts ++ us) b₂
unfolding GoesOn
then_goes_on b b₁ b₂ ts us f g z h r = subst (λ (x : List Taken). Reached z x b₂) (append_assoc h ts us) (g z (h ++ ts) (f z h r))

-- one step, with what came of it
pub turn_goes_on : (b b' out out' : List ℕ) (k : Step) (o : Outcome) → o ≡ outcome_of (length b) (view b) (length out) k
    → view out' ≡ output_after (length b) (view b) (length out) k (view out) → GoesOn b (came_to k (length out) (view out) o (view out') ∷ []) b'
    → GoesOn b (taken_on b out (k ∷ [])) b'
unfolding taken_run
turn_goes_on b b' out out' k o p q g = rw (p, q) at g
