-- A slot looked for on servers in a row, and taken.
use Rattle.std.specs.Prelude.{◌≡◌, true, List, ◌∷◌, ℕ, ◌+◌, ◌≤◌, length, get_or, Result}
use Rattle.nodes.specs.Found.{Found}
use Rattle.nodes.specs.Found.{Inside}
use Rattle.nodes.specs.Name.{server_of, slot_of}
use Rattle.nodes.specs.Placement.{row}
use Rattle.operations.specs.Object.{flag, taken, Writes}
use Rattle.operations.specs.Slot.{chosen, search, open_ones, take_on}
use Rattle.operations.specs.Path.{TreePlan}
use Rattle.client.specs.Bounds.{end_of_slots}
use Rattle.walk.specs.declared.walk.Stop.{Stop}
use Rattle.client.specs.Layout.{ClientWord}
use Rattle.client.specs.Record.{in_store}
use Rattle.client.specs.Lent.{used_in}
use Rattle.walk.specs.Walk.{Course, course, ok_or, goes, walked, carry}
use Rattle.walk.specs.Ask.{OwnGood, HoldsWrites, Noted}
use Rattle.walk.specs.Vector.{slot_in}

-- ---- the statements
-- a look at the next server of a row, where "absent servers are skipped", and those closing
pub record LookedInRow (slots : ℕ) (m : ClientWord → ℕ) (x u : List ℕ) (states s slot : ℕ) (t : Course) (f : Found) (u' : List ℕ) : Type 0 where
  pub asks : (w : Writes) → HoldsWrites slots x w → (ss : List ℕ) (k : ℕ → TreePlan)
      → walked slots m (search slots w slot (open_ones states (s ∷ ss)) k) (used_in u)
      ≡ carry t (used_in u') (λ us. walked slots m (chosen s (slot_in f) k (search slots w slot (open_ones states ss) k)) us)
  pub near : Inside f end_of_slots
  pub noted : Noted m u'
  pub long : length u' ≡ length u

-- the slot above a slot number that is found on the servers ss
pub record Sought (slots : ℕ) (m : ClientWord → ℕ) (x u ss : List ℕ) (slot : ℕ) (r : Result ℕ Stop) (u' : List ℕ) : Type 0 where
  pub asks : (w : Writes) → HoldsWrites slots x w → (k : ℕ → TreePlan) → walked slots m (search slots w slot ss k) (used_in u) ≡ carry (course r) (used_in u') (λ us. walked slots m (k (ok_or 0 r)) us)
  pub noted : Noted m u'
  pub long : length u' ≡ length u

-- and its flag is taken
pub record TakenOn (slots : ℕ) (m : ClientWord → ℕ) (x u ss : List ℕ) (slot : ℕ) (r : Result ℕ Stop) (x' u' : List ℕ) : Type 0 where
  pub asks : (w : Writes) → HoldsWrites slots x w → (k : ℕ → Writes → TreePlan)
      → walked slots m (take_on slots ss slot w k) (used_in u) ≡ carry (course r) (used_in u') (λ us. walked slots m (k (ok_or 0 r) ((flag (ok_or 0 r), taken true) ∷ w)) us)
  pub holds : goes (course r) ≡ true → (w : Writes) → HoldsWrites slots x w → HoldsWrites slots x' ((flag (ok_or 0 r), taken true) ∷ w)
  pub good : goes (course r) ≡ true → OwnGood x'
  pub noted : Noted m u'
  pub long : length u' ≡ length u
  pub few : get_or x' 0 0 ≤ get_or x 0 0 + 1
  pub inside : goes (course r) ≡ true → in_store slots (ok_or 0 r) ≡ true

-- for the node n that is split: on the servers of its home's row
abbrev pub TakenFor : ℕ → (ClientWord → ℕ) → List ℕ → List ℕ → ℕ → Result ℕ Stop → List ℕ → List ℕ → Type 0
TakenFor slots m x u n r x' u' = TakenOn slots m x u (row (server_of n)) (slot_of n) r x' u'
