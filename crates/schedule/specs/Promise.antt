-- WHAT IS PROMISED of every store that was reached: opened new, and then left so by calls of `step` and `run`, however many (`engine`, `Reached`).
use Rattle.std.specs.Prelude.{◌≡◌, List, ◌∷◌, ◌++◌, ℕ, ◌*◌, ◌≤◌, length}
use Rattle.memory.specs.Word.{view}
use Rattle.plans.specs.Walk.{Every}
use Rattle.operations.specs.Object.{Ans}
use Rattle.steps.specs.declared.sizes.Sizes.{Sizes}
use Rattle.steps.specs.Taken.{Taken}
use Rattle.kinds.specs.Parts.{stored_in}
use Rattle.demand.specs.Ledger.{Told, decided_in, map_of, map_all, RightAll}
use Rattle.demand.specs.Demand.{Demand, Tree, Applies}
use Rattle.demand.specs.Ears.{Together, LooksUp, OfOne}
use Rattle.demand.specs.ClassList.{Lists, ListedFrom}
use Rattle.engine.specs.Reached.{Reached}
use Rattle.ranges.specs.Claim.{NotRefusedBy10}
use Rattle.steps.specs.declared.step.Step.{Step}
use Rattle.schedule.specs.Listed.{as_written, AllTaken}

-- of a store of sizes z in which the steps of h were taken, with these outcomes; b are its bytes now
pub record Promised (z : Sizes) (h : List Taken) (b : List ℕ) : Type 0 where
  -- demand 3: the decided transactions explain every answer, and the tree as the applies leave it
  pub demand_3 : Demand z h (stored_in z (view b))
  -- no step was refused by 10
  pub never_refused_by_10 : Every (λ (t : Taken). NotRefusedBy10 t.outcome) h
  -- both ears: ts is a decided transaction, decided after those of `before`
  pub both_ears : (left right : ℕ) (a c : Ans) (after before : List (List Told)) (ts : List Told) → decided_in h ≡ after ++ ts ∷ before
      → Together left right before → LooksUp left a ts → LooksUp right c ts → OfOne left right a c before
  -- the class list: fewer than were asked for only where the map has fewer
  pub class_list : (k n : ℕ) (a : Ans) (after before : List (List Told)) (ts : List Told) → decided_in h ≡ after ++ ts ∷ before
      → (l : Lists k n a ts) → ListedFrom k n a (map_of l.earlier (map_all before))
  -- DEMAND 3 OF TWO CALLS OF `run`: any steps ks, lent the output `out`, whose outcomes it wrote to `outcomes₁`; then applies js of every client at every
  -- server, in any order. Of all that was decided until the second call the answers are right, those of lists by the output as each of them left it,
  -- and the tree in the bytes that it left holds the map.
  pub run_then_applies : (ks js : List Step) (out outcomes b₁ out₁ outcomes₁ lent noted b₂ lent₂ noted₂ : List ℕ) → 3 * length ks ≤ length outcomes
      → (first : AllTaken b out outcomes ks b₁ out₁ outcomes₁) → AllTaken b₁ lent noted js b₂ lent₂ noted₂ → Applies z js
      → let decided = decided_in (h ++ as_written outcomes₁ 0 first.taken) in RightAll decided × Tree (stored_in z (view b₂)) (map_all decided)

-- whatever was reached
abbrev pub Promise : Type 0
Promise = (z : Sizes) (h : List Taken) (b : List ℕ) → Reached z h b → Promised z h b
