-- The work step of an operation that only reads: it writes nothing, so the last questions let every answer pass.
use Rattle.std.specs.Prelude.{◌≡◌, Bool, true, false, List, [], ℕ}
use Rattle.operations.specs.Object.{Ans, Writes}
use Rattle.operations.specs.Path.{TreePlan}
use Rattle.operations.specs.Entry.{Entries}
use Rattle.walk.specs.declared.found.Sought.{Sought}
use Rattle.walk.specs.declared.found.Sought.TheVariants.{Higher, Lower}
use Rattle.walk.specs.Walk.{Course}
use Rattle.client.specs.Layout.{ClientWord}
use Rattle.client.specs.Work.{answers, worked}
use Rattle.walk.specs.Found.{search_plan}
use Rattle.walk.specs.Stopped.{Stopped, Filled}
use Rattle.client.specs.Work as C

-- next to the right and previous to the left
abbrev pub near_on : Bool → Sought
near_on true = Higher
near_on false = Lower

-- one pair is sought
abbrev pub near_plan : Bool → ℕ → TreePlan
near_plan right key = search_plan (record { sought = near_on right; wanted = 1; key = key })

-- the walk of such an operation has ended as its work step does: nothing is written, and the answer has the pairs ps; the lent list has the copies
-- that it used
pub record Looks (slots : ℕ) (m : ClientWord → ℕ) (s : Course) (u₀ u : List ℕ) (ps : Entries) : Type 0 where
  pub stopped : Stopped slots m s u
  pub filled : Filled u₀ (C.walked slots m).used u
  pub none : (a : Ans) (w : Writes) → worked slots m ≡ answers a w → w ≡ []
  pub pairs : (a : Ans) (w : Writes) → worked slots m ≡ answers a w → a.2 ≡ ps
