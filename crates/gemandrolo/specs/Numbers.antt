-- What programs in C and Rust pass and get: sizes, steps, lengths and outcomes as numbers.
use Rattle.std.specs.Prelude.{List, [], ◌∷◌, ℕ, Result, Ok, Err}
use Rattle.std.specs.Borrow.{MutBor}
use denote.Triple.Both.{Both}
use Rattle.client.specs.Lent.{LentMut}
use Rattle.steps.specs.declared.sizes.Sizes.{Sizes}
use Rattle.steps.specs.declared.step.Step.{Step}
use Rattle.steps.specs.declared.outcome.Line.{Line}
use Rattle.steps.specs.Outcome.{line}
use Rattle.steps.specs.Taken.{Taken, outcome_from}
use Rattle.engine.specs.Step.{outcome_of, lent, as_taken}
use Rattle.steps.specs.declared.refusal.Refusal.{Refusal}

-- the three sizes as a program passes them
abbrev pub sizes_of : ℕ → ℕ → ℕ → Sizes
sizes_of servers slots clients = record { servers = servers; slots = slots; clients = clients }

-- "A step has six fields: kind, client, op, key, value, server."
abbrev pub step_of : ℕ → ℕ → ℕ → ℕ → ℕ → ℕ → Step
step_of kind client op key value server = record { kind = kind; client = client; op = op; key = key; value = value; server = server }

-- a length in bytes, or 0
abbrev pub bytes_of : Result ℕ Refusal → ℕ
bytes_of (Ok n) = n
bytes_of (Err r) = 0

-- the three numbers of a step's outcome, on the lent memory and with the lent output
abbrev pub numbers_of : LentMut → LentMut → Step → Line
numbers_of mem out k = line (lent outcome_of mem out k)

-- a lent number as a contract names it
abbrev pub LentNumber : Type 0
LentNumber = Both (MutBor ℕ) (MutBor ℕ)

-- one step that was taken, with the three numbers of its outcome, two of them behind references, and the output that it was lent
abbrev pub one_taken : Step → LentMut → ℕ → LentNumber → LentNumber → List Taken
one_taken k out n a b = as_taken k out (outcome_from n a.exit.now b.exit.now) ∷ []
