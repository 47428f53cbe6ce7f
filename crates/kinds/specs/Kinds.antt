-- What a kind of step comes to.
use Rattle.std.specs.Prelude.{List, ℕ}
use Rattle.layout.specs.Step.{Does}
use Rattle.steps.specs.declared.sizes.Sizes.{Sizes}
use Rattle.steps.specs.declared.outcome.Outcome.{Outcome}
use Rattle.steps.specs.Whole.{Address, whole, block}
use Rattle.steps.specs.Steps.{Did}
use Rattle.memory.specs.Word.{view}

-- code with words w before and w' after comes to the outcome o, as d says
abbrev pub Meets : Sizes → ((Address → ℕ) → Did) → List ℕ → Outcome → List ℕ → Type 0
Meets z d w o w' = Does whole (block z) (λ m. (d m).stores) (λ m. (d m).outcome) w o w'

-- the same of the bytes b before and b' after
abbrev pub Comes : Sizes → ((Address → ℕ) → Did) → List ℕ → Outcome → List ℕ → Type 0
Comes z d b o b' = Meets z d (view b) o (view b')
