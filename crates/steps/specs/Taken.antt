-- Steps that were taken, with what came of each, and where they lead by the rules.
use Rattle.std.specs.Prelude.{◌≡◌, List, [], ◌∷◌, ℕ, ◌<◌, get_or}
use Rattle.layout.specs.Space.{changed}
use Rattle.operations.specs.Map.{two_to_64}
use Rattle.steps.specs.declared.sizes.Sizes.{Sizes}
use Rattle.steps.specs.declared.step.Step.{Step}
use Rattle.steps.specs.declared.outcome.Outcome.{Outcome}
use Rattle.steps.specs.declared.outcome.Outcome.TheVariants.{Refused, Done, Fetched, Answered, Prepared, Decided, Applied, Committed, Aborted}
use Rattle.steps.specs.Whole.{Address, whole}
use Rattle.steps.specs.Output.{with_pairs}
use Rattle.steps.specs.Steps.{Did, step}

-- a number of 64 bits
abbrev pub Word : ℕ → Type 0
Word n = n < two_to_64

-- "Keys and values are any unsigned 64-bit numbers": so are all six fields
pub record Words (k : Step) : Type 0 where
  pub kind : Word k.kind
  pub client : Word k.client
  pub op : Word k.op
  pub key : Word k.key
  pub value : Word k.value
  pub server : Word k.server

-- a step that was taken, its outcome, and the output that it was lent: its length in bytes, its words before and after the step
pub record Taken : Type 0 where
  pub step : Step
  pub outcome : Outcome
  pub room : ℕ
  pub lent : List ℕ
  pub left : List ℕ

-- the steps alone
abbrev pub steps_of : List Taken → List Step
steps_of [] = []
steps_of (t ∷ h) = t.step ∷ steps_of h

-- the step k, lent an output of that many bytes with these words, came to the outcome o and left those
abbrev pub came_to : Step → ℕ → List ℕ → Outcome → List ℕ → Taken
came_to k room lent o left = record { step = k; outcome = o; room = room; lent = lent; left = left }

-- "Outcomes: 0 refused (a number); 1 done; 2 fetched .. 8 aborted (a reason)": the outcome that three numbers stand for; none is above 8
unfoldable pub outcome_from : ℕ → ℕ → ℕ → Outcome
outcome_from n a b = get_or (Refused a ∷ Done ∷ Fetched a b ∷ Answered a b ∷ Prepared a ∷ Decided ∷ Applied a ∷ Committed ∷ Aborted a ∷ []) n Done

-- an engine: what comes of each step, lent an output of that many bytes, on the memory of a store of these sizes. This one is `Steps.step`
abbrev pub Engine : Type 0
Engine = Sizes → Step → ℕ → (Address → ℕ) → Did

-- "run front to back": by the engine f the steps of h come to these outcomes, and lead from the memory m to the memory m'
unfoldable pub LeadsBy : Engine → Sizes → (Address → ℕ) → List Taken → (Address → ℕ) → Type 0
LeadsBy f z m [] m' = m' ≡ m
LeadsBy f z m (t ∷ h) m' =
    let d = f z t.step t.room m in
    Words t.step × (t.outcome ≡ d.outcome) × (t.left ≡ with_pairs d.pairs t.lent) × LeadsBy f z (changed whole m d.stores) h m'

-- the same by this engine, so by the rules
abbrev pub Leads : Sizes → (Address → ℕ) → List Taken → (Address → ℕ) → Type 0
Leads = LeadsBy step
