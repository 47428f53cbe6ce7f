-- The walk over a list of steps, turn by turn.
use Rattle.std.specs.Prelude.{◌≡◌, refl, List, [], ◌∷◌, ℕ, suc, ◌+◌, ◌*◌, ◌/◌, ◌≤◌, ◌<◌, length, get_or, set, drop}
use Rattle.std.proofs.Math.Path.{sym}
use Rattle.std.proofs.Common.{subst, arith, lt-ltb, le-ltb, add-one, drop-cons, drop_of_length-le}
use Rattle.std.proofs.Math.Decide.{ℕ_discrete}
use Rattle.plans.specs.Walk.{Every}
use Rattle.steps.specs.declared.step.Step.{Step}
use Rattle.steps.specs.declared.outcome.Line.{Line}
use Rattle.memory.specs.Word.{view}
use Rattle.steps.specs.Taken.{Words}
use Rattle.engine.specs.Reached.{GoesOn}
use Rattle.schedule.specs.Listed.{written_down, words_run, output_run, taken_run, taken_on, lines, TurnTaken, AllTaken}
use Rattle.schedule.proofs.Laws.Reached.{none_goes_on, then_goes_on}

-- what stands past the end of a list of steps
abbrev pub no_step : Step
no_step = record { kind = 0; client = 0; op = 0; key = 0; value = 0; server = 0 }

module _ (out : List ℕ) (i : ℕ) where
  pub noted_there : (l : Line) → i < length out / 3 → set (set (set out (3 * i) l.outcome) (3 * i + 1) l.a) (3 * i + 2) l.b ≡ written_down out i l
  unfolding written_down
  noted_there l h = sym (rw (lt-ltb i (length out / 3) h))

  pub left_out : (l : Line) → length out / 3 ≤ i → out ≡ written_down out i l
  unfolding written_down
  left_out l h = sym (rw (le-ltb i (length out / 3) h))

-- each step of a list
pub all_words : (ks : List Step) → ((j : ℕ) → j < length ks → Words (get_or ks j no_step)) → Every Words ks
unfolding Every
all_words [] h = tt
all_words (k ∷ ks) h = (h 0 (omega arith), all_words ks (λ j l. h (suc j) (omega arith)))

-- one more
pub words_next : (ks : List Step) (i : ℕ) → ((j : ℕ) → j < i → Words (get_or ks j no_step)) → Words (get_or ks i no_step) → (j : ℕ) → j < suc i → Words (get_or ks j no_step)
words_next ks i h w j l = go (ℕ_discrete j i)
  where
    go : Dec (j ≡ i) → Words (get_or ks j no_step)
    go (yes e) = subst (λ (n : ℕ). Words (get_or ks n no_step)) (sym e) w
    go (no d) = h j (omega arith)

-- ---- i steps of the list ks are done, on memory with the bytes b, lent an output with the bytes `out` and a list of outcomes: what the steps left make of
-- the present bytes, output and outcomes is what all of them make of the first; and whatever bytes they go on to from here, all of them go on to
pub record SoFar (b out outcomes : List ℕ) (ks : List Step) (i : ℕ) (b' out' outcomes' : List ℕ) : Type 0 where
  pub words : words_run (length b) (length out) (view b') (drop i ks) ≡ words_run (length b) (length out) (view b) ks
  pub output : output_run (length b) (length out) (view b') (view out') (drop i ks) ≡ output_run (length b) (length out) (view b) (view out) ks
  pub noted : lines outcomes' i (taken_run (length b) (length out) (view b') (view out') (drop i ks)) ≡ lines outcomes 0 (taken_on b out ks)
  pub reached : (c : List ℕ) → GoesOn b' (taken_run (length b) (length out) (view b') (view out') (drop i ks)) c → GoesOn b (taken_on b out ks) c

module _ (b out outcomes : List ℕ) (ks : List Step) where
  pub none_done : SoFar b out outcomes ks 0 b out outcomes
  none_done = record { words = refl; output = refl; noted = refl; reached = λ c g. g }

  pub one_done : (i r : ℕ) (b₁ out₁ outcomes₁ b₂ out₂ outcomes₂ : List ℕ) → SoFar b out outcomes ks i b₁ out₁ outcomes₁ → i < length ks → length b₁ ≡ length b → length out₁ ≡ length out
      → TurnTaken b₁ out₁ outcomes₁ i (get_or ks i no_step) r b₂ out₂ outcomes₂ → GoesOn b₁ (taken_on b₁ out₁ (get_or ks i no_step ∷ [])) b₂
      → SoFar b out outcomes ks (i + 1) b₂ out₂ outcomes₂
  unfolding words_run output_run taken_run lines
  one_done i r b₁ out₁ outcomes₁ b₂ out₂ outcomes₂ h l e d t g =
      let k = get_or ks i no_step in
      let c : drop i ks ≡ k ∷ drop (suc i) ks = drop-cons ks i no_step l in
      rw (add-one i) (record {
        words = rw (t.1, e, d) (rw c at h.words);
        output = rw (t.1, t.2, e, d) (rw c at h.output);
        noted = rw (t.1, t.2, t.3, e, d) (rw c at h.noted);
        reached = rw (t.1, t.2, e, d) (λ x f. (rw c at h.reached) x (then_goes_on b₁ b₂ x _ _ (rw (e, d) at g) f));
      })

  pub all_done : (i : ℕ) (b' out' outcomes' : List ℕ) → SoFar b out outcomes ks i b' out' outcomes' → length ks ≤ i → AllTaken b out outcomes ks b' out' outcomes'
  unfolding words_run output_run taken_run lines
  all_done i b' out' outcomes' h l =
      let none : drop i ks ≡ [] = drop_of_length-le ks {i = i} l in
      record {
        words = rw none at h.words;
        output = rw none at h.output;
        taken = taken_on b out ks;
        is = refl;
        noted = rw none at h.noted;
        reached = (rw none at h.reached) b' (none_goes_on b');
      }
