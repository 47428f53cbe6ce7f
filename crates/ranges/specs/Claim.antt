-- THE CLAIM: from a newly opened store no step is refused by 10, "Something stored that this step's rule reads has a field out of range, or
-- points to something that isn't there": no steps lead to such a store. So an apply that is due is never refused.
use Rattle.std.specs.Prelude.{◌≡◌, true, List, ◌⊎◌, ℕ, ◌<◌}
use Rattle.plans.specs.Walk.{Every}
use Rattle.nodes.specs.Bounds.{most_servers}
use Rattle.steps.specs.declared.sizes.Sizes.{Sizes}
use Rattle.steps.specs.declared.step.Step.{Step}
use Rattle.steps.specs.declared.step.Kind.TheVariants.{Apply}
use Rattle.steps.specs.declared.outcome.Outcome.{Outcome}
use Rattle.steps.specs.declared.outcome.Outcome.TheVariants.{Refused, Applied, Committed}
use Rattle.steps.specs.Whole.{Address, client, Allowed}
use Rattle.steps.specs.Refusal.{state_fits}
use Rattle.steps.specs.Steps.{step}
use Rattle.steps.specs.Run.{opened}
use Rattle.steps.specs.Taken.{Words, Taken, Leads}

-- an outcome other than a refusal by 10
abbrev pub NotRefusedBy10 : Outcome → Type 0
NotRefusedBy10 o = ¬ (o ≡ Refused 10)

-- for all allowed sizes and all steps that can be taken from a newly opened store, those refused by another number included
abbrev pub NeverRefusedBy10 : Type 0
NeverRefusedBy10 = (z : Sizes) → Allowed z → (h : List Taken) (m : Address → ℕ) → Leads z (opened z) h m → Every (λ (t : Taken). NotRefusedBy10 t.outcome) h

-- an apply fits "after the decision, one not yet applied"
abbrev pub DueIsApplied : Type 0
DueIsApplied = (z : Sizes) → Allowed z → (h : List Taken) (m : Address → ℕ) → Leads z (opened z) h m
    → (k : Step) → Words k → k.kind ≡ 5 → k.client < z.clients → k.server < most_servers → state_fits (λ a. m (client k.client a)) k.server Apply ≡ true
    → (room : ℕ) → ((step z k room m).outcome ≡ Applied k.server) ⊎ ((step z k room m).outcome ≡ Committed)
