-- Where the output has room for all outcomes, the steps that were taken can be read from it.
use Rattle.std.specs.Prelude.{◌≡◌, Bool, ltb, set}
use Rattle.std.proofs.Math.Path.{refl, ap}
use Rattle.std.proofs.Common.{sym, ap₂, ◌∙◌, subst, arith, lt-ltb, get_or-set_same}
use Rattle.std.proofs.Math.Bool.{true, false, cond}
use mathlib.Core.List.{List, [], ◌∷◌}
use Prim.Native.Nat.{ℕ, suc, ◌+◌, ◌*◌, ◌/◌, ◌≤◌, ◌<◌}
use Rattle.std.proofs.Math.ListN.{length, get_or, length-set}
use Rattle.std.proofs.Math.Seq.{get_or-set_other}
use Rattle.memory.specs.Word.{view}
use Rattle.steps.specs.declared.step.Step.{Step}
use Rattle.steps.specs.declared.outcome.Outcome.{Outcome}
use Rattle.steps.specs.declared.outcome.Line.{Line}
use Rattle.steps.specs.Outcome.{line}
use Rattle.steps.specs.Taken.{Taken, steps_of, came_to}
use Rattle.steps.proofs.Laws.Taken.{same_outcome}
use Rattle.engine.specs.Step.{words_after, output_after}
use Rattle.engine.specs.Reached.{GoesOn}
use Rattle.schedule.specs.Listed.{written_down, lines, taken_run, as_written, AllTaken}

-- ---- one outcome is written
module _ (out : List ℕ) (i : ℕ) (l : Line) where
  abbrev three : List ℕ
  three = set (set (set out (3 * i) l.outcome) (3 * i + 1) l.a) (3 * i + 2) l.b

  noted_length : length (written_down out i l) ≡ length out
  unfolding written_down
  noted_length = go (ltb i (length out / 3))
    where
      go : (b : Bool) → length (cond b three out) ≡ length out
      go true = simp length-set
      go false = refl

  noted_before : (p : ℕ) → p < 3 * i → get_or (written_down out i l) p 0 ≡ get_or out p 0
  unfolding written_down
  noted_before p h = go (ltb i (length out / 3))
    where
      go : (b : Bool) → get_or (cond b three out) p 0 ≡ get_or out p 0
      go true =
          get_or-set_other (set (set out (3 * i) l.outcome) (3 * i + 1) l.a) (3 * i + 2) p l.b 0 (λ e. absurd (omega arith))
          ∙ get_or-set_other (set out (3 * i) l.outcome) (3 * i + 1) p l.a 0 (λ e. absurd (omega arith)) ∙ get_or-set_other out (3 * i) p l.outcome 0 (λ e. absurd (omega arith))
      go false = refl

  module _ (room : 3 * suc i ≤ length out) where
    noted_is : written_down out i l ≡ three
    unfolding written_down
    noted_is = ap (λ (b : Bool). cond b three out) (lt-ltb i (length out / 3) (omega arith))

    noted_first : get_or (written_down out i l) (3 * i) 0 ≡ l.outcome
    noted_first =
        ap (λ (x : List ℕ). get_or x (3 * i) 0) noted_is
        ∙ get_or-set_other (set (set out (3 * i) l.outcome) (3 * i + 1) l.a) (3 * i + 2) (3 * i) l.b 0 (λ e. absurd (omega arith))
        ∙ get_or-set_other (set out (3 * i) l.outcome) (3 * i + 1) (3 * i) l.a 0 (λ e. absurd (omega arith)) ∙ get_or-set_same out (3 * i) l.outcome 0 (omega arith)

    noted_second : get_or (written_down out i l) (3 * i + 1) 0 ≡ l.a
    noted_second =
        ap (λ (x : List ℕ). get_or x (3 * i + 1) 0) noted_is
        ∙ get_or-set_other (set (set out (3 * i) l.outcome) (3 * i + 1) l.a) (3 * i + 2) (3 * i + 1) l.b 0 (λ e. absurd (omega arith))
        ∙ get_or-set_same (set out (3 * i) l.outcome) (3 * i + 1) l.a 0 (omega (arith, length-set out (3 * i) l.outcome))

    noted_third : get_or (written_down out i l) (3 * i + 2) 0 ≡ l.b
    noted_third =
        ap (λ (x : List ℕ). get_or x (3 * i + 2) 0) noted_is
        ∙ get_or-set_same (set (set out (3 * i) l.outcome) (3 * i + 1) l.a) (3 * i + 2) l.b 0
        (omega (arith, length-set out (3 * i) l.outcome, length-set (set out (3 * i) l.outcome) (3 * i + 1) l.a))

-- ---- all are
lines_before : (ts : List Taken) (out : List ℕ) (i p : ℕ) → p < 3 * i → get_or (lines out i ts) p 0 ≡ get_or out p 0
unfolding lines
lines_before [] out i p h = refl
lines_before (t ∷ ts) out i p h = lines_before ts (written_down out i (line t.outcome)) (suc i) p (omega arith) ∙ noted_before out i (line t.outcome) p h

pub written : (ts : List Taken) (out : List ℕ) (i : ℕ) → 3 * (i + length ts) ≤ length out → as_written (lines out i ts) i ts ≡ ts
unfolding as_written lines
written [] out i room = refl
written (t ∷ ts) out i room =
    let o = t.outcome in
    let l = line o in
    let out' = written_down out i l in
    let later = lines out' (suc i) ts in
    let here : (p : ℕ) → p < 3 * suc i → get_or later p 0 ≡ get_or out' p 0 = lines_before ts out' (suc i) in
    ap₂ (λ (x : Outcome) (us : List Taken). came_to t.step t.room t.lent x t.left ∷ us)
    (rw (
      here (3 * i) (omega arith),
      here (3 * i + 1) (omega arith),
      here (3 * i + 2) (omega arith),
      noted_first out i l (omega arith),
      noted_second out i l (omega arith),
      noted_third out i l (omega arith),
    ) (same_outcome o))
    (written ts out' (suc i) (omega (arith, noted_length out i l)))

-- the steps are those that were run
module _ (n room : ℕ) where
  pub steps_run : (ks : List Step) (w out : List ℕ) → steps_of (taken_run n room w out ks) ≡ ks
  unfolding taken_run
  steps_run [] w out = refl
  steps_run (k ∷ ks) w out = ap (λ (l : List Step). k ∷ l) (steps_run ks (words_after n w room k) (output_after n w room k out))

  length_run : (ks : List Step) (w out : List ℕ) → length (taken_run n room w out ks) ≡ length ks
  unfolding taken_run
  length_run [] w out = refl
  length_run (k ∷ ks) w out = ap suc (length_run ks (words_after n w room k) (output_after n w room k out))

-- what `run` leaves, by the outcomes that it wrote
pub reached_as_written : (b out outcomes : List ℕ) (ks : List Step) (b' out' outcomes' : List ℕ) → 3 * length ks ≤ length outcomes
    → (a : AllTaken b out outcomes ks b' out' outcomes') → GoesOn b (as_written outcomes' 0 a.taken) b'
reached_as_written b out outcomes ks b' out' outcomes' room a =
    let long = ap length a.is ∙ length_run (length b) (length out) ks (view b) (view out) in
    subst (λ (us : List Taken). GoesOn b us b')
    (sym (ap (λ (x : List ℕ). as_written x 0 a.taken) a.noted ∙ written a.taken outcomes 0 (omega (arith, long)))) a.reached
