-- "A schedule is a lent list of step records, run front to back": the words after it, the steps with their outcomes, the outcomes written to a lent
-- list, and the output that is lent to all its steps.
use Rattle.std.specs.Prelude.{◌≡◌, cond, List, [], ◌∷◌, ℕ, suc, ◌+◌, ◌*◌, ◌/◌, ltb, length, set, get_or}
use Rattle.std.specs.Borrow.{Bor}
use denote.Triple.Both.{Both}
use Rattle.memory.specs.Word.{view}
use Rattle.client.specs.Lent.{LentMut}
use Rattle.steps.specs.declared.step.Step.{Step}
use Rattle.steps.specs.declared.outcome.Line.{Line}
use Rattle.steps.specs.Outcome.{line}
use Rattle.steps.specs.Taken.{Taken, came_to, outcome_from}
use Rattle.engine.specs.Step.{outcome_of, words_after, output_after}
use Rattle.engine.specs.Reached.{GoesOn}

-- on memory of n bytes with these words, where an output of `room` bytes is lent to all steps: the words after a list of steps
module _ (n room : ℕ) where
  unfoldable pub words_run : List ℕ → List Step → List ℕ
  words_run w [] = w
  words_run w (k ∷ ks) = words_run (words_after n w room k) ks

  -- the output after them, whose words were `out`
  unfoldable pub output_run : List ℕ → List ℕ → List Step → List ℕ
  output_run w out [] = out
  output_run w out (k ∷ ks) = output_run (words_after n w room k) (output_after n w room k out) ks

  -- the steps as they were taken: with their outcomes, and the output as each found and left it
  unfoldable pub taken_run : List ℕ → List ℕ → List Step → List Taken
  taken_run w out [] = []
  taken_run w out (k ∷ ks) =
      let out' = output_after n w room k out in
      came_to k room out (outcome_of n w room k) out' ∷ taken_run (words_after n w room k) out' ks

-- the three numbers of an outcome as those of step i; without room for them they are left out
unfoldable pub written_down : List ℕ → ℕ → Line → List ℕ
written_down outcomes i l =
    cond (ltb i (length outcomes / 3)) (set (set (set outcomes (3 * i) l.outcome) (3 * i + 1) l.a) (3 * i + 2) l.b) outcomes

-- What step k, the i-th of a list, leaves of memory with the bytes b, of the output with the bytes `out` and of the list of outcomes; r is its
-- outcome's number.
abbrev pub TurnTaken : List ℕ → List ℕ → List ℕ → ℕ → Step → ℕ → List ℕ → List ℕ → List ℕ → Type 0
TurnTaken b out outcomes i k r b' out' outcomes' =
    let l = line (outcome_of (length b) (view b) (length out) k) in
    (r ≡ l.outcome) × (view b' ≡ words_after (length b) (view b) (length out) k)
    × (view out' ≡ output_after (length b) (view b) (length out) k (view out)) × (outcomes' ≡ written_down outcomes i l)

-- over the lent memory, output and list of outcomes
abbrev pub Turns : LentMut → LentMut → LentMut → ℕ → Step → ℕ → Type 0
Turns mem out outcomes i k r =
    TurnTaken mem.entry.now out.entry.now outcomes.entry.now i k r mem.exit.now out.exit.now outcomes.exit.now

-- the outcomes of a list of steps, from step i on
unfoldable pub lines : List ℕ → ℕ → List Taken → List ℕ
lines outcomes i [] = outcomes
lines outcomes i (t ∷ ts) = lines (written_down outcomes i (line t.outcome)) (suc i) ts

-- the same steps with the outcomes that stand in the list, from step i on
unfoldable pub as_written : List ℕ → ℕ → List Taken → List Taken
as_written outcomes i [] = []
as_written outcomes i (t ∷ ts) =
    let o = outcome_from (get_or outcomes (3 * i) 0) (get_or outcomes (3 * i + 1) 0) (get_or outcomes (3 * i + 2) 0) in
    came_to t.step t.room t.lent o t.left ∷ as_written outcomes (suc i) ts

-- the steps ks as they were taken on memory with the bytes b, lent an output with the bytes `out`
abbrev pub taken_on : List ℕ → List ℕ → List Step → List Taken
taken_on b out ks = taken_run (length b) (length out) (view b) (view out) ks

-- What a list of steps ks leaves of memory with the bytes b, of the output with the bytes `out` and of the list of outcomes. Whatever steps had
-- reached b, these go on from there.
pub record AllTaken (b out outcomes : List ℕ) (ks : List Step) (b' out' outcomes' : List ℕ) : Type 0 where
  pub words : view b' ≡ words_run (length b) (length out) (view b) ks
  pub output : view out' ≡ output_run (length b) (length out) (view b) (view out) ks
  -- the steps as they were taken
  pub taken : List Taken
  pub is : taken ≡ taken_on b out ks
  pub noted : outcomes' ≡ lines outcomes 0 taken
  pub reached : GoesOn b taken b'

-- a lent list of steps as a contract names it
abbrev pub LentSteps : Type 0
LentSteps = Both (Bor (List Step)) (Bor (List Step))

-- over what is lent
abbrev pub TakesAll : LentMut → LentMut → LentMut → LentSteps → Type 0
TakesAll mem out outcomes steps =
    AllTaken mem.entry.now out.entry.now outcomes.entry.now steps.entry.now mem.exit.now out.exit.now outcomes.exit.now
