-- Slots taken and freed, walked: flags and nodes.
use Rattle.std.specs.Prelude.{◌≡◌, true, false, List, ◌∷◌, ℕ, ◌+◌, ◌≤◌, length, get_or}
use Rattle.operations.specs.Object.{Obj, node, flag, Val, taken, free, Writes}
use Rattle.operations.specs.Slot.{take_flag, take_node, release}
use Rattle.operations.specs.Path.{TreePlan}
use Rattle.client.specs.Layout.{ClientWord}
use Rattle.client.specs.Record.{in_store, object_in_store}
use Rattle.client.specs.Lent.{used_in}
use Rattle.walk.specs.Walk.{Course, goes, walked, carry}
use Rattle.walk.specs.Ask.{OwnGood, HoldsWrites, Noted}

-- a taken slot's node, which must be free
pub record NodeTaken (slots : ℕ) (m : ClientWord → ℕ) (x u : List ℕ) (n : ℕ) (s : Course) (u' : List ℕ) : Type 0 where
  pub asks : (w : Writes) → HoldsWrites slots x w → (k : TreePlan) → walked slots m (take_node w n k) (used_in u) ≡ carry s (used_in u') (λ us. walked slots m k us)
  pub noted : Noted m u'
  pub long : length u' ≡ length u
  pub inside : goes s ≡ true → in_store slots n ≡ true

-- a flag that is free, and then taken by an own write
pub record FlagTaken (slots : ℕ) (m : ClientWord → ℕ) (x u : List ℕ) (n : ℕ) (s : Course) (x' u' : List ℕ) : Type 0 where
  pub asks : (w : Writes) → HoldsWrites slots x w → (k : Writes → TreePlan) → walked slots m (take_flag w n k) (used_in u) ≡ carry s (used_in u') (λ us. walked slots m (k ((flag n, taken true) ∷ w)) us)
  pub holds : goes s ≡ true → (w : Writes) → HoldsWrites slots x w → HoldsWrites slots x' ((flag n, taken true) ∷ w)
  pub good : goes s ≡ true → OwnGood x'
  pub noted : Noted m u'
  pub long : length u' ≡ length u
  pub few : get_or x' 0 0 ≤ get_or x 0 0 + 1
  pub inside : goes s ≡ true → in_store slots n ≡ true

-- a node freed: its flag is read, and both are written
pub record Released (slots : ℕ) (m : ClientWord → ℕ) (x u : List ℕ) (n : ℕ) (s : Course) (x' u' : List ℕ) : Type 0 where
  pub asks : (w : Writes) → HoldsWrites slots x w → (k : Writes → TreePlan)
      → walked slots m (release w n k) (used_in u) ≡ carry s (used_in u') (λ us. walked slots m (k ((node n, free) ∷ (flag n, taken false) ∷ w)) us)
  pub holds : goes s ≡ true → (w : Writes) → HoldsWrites slots x w → HoldsWrites slots x' ((node n, free) ∷ (flag n, taken false) ∷ w)
  pub good : goes s ≡ true → OwnGood x'
  pub noted : Noted m u'
  pub long : length u' ≡ length u
  pub few : get_or x' 0 0 ≤ get_or x 0 0 + 2
  pub inside : goes s ≡ true → in_store slots n ≡ true

-- an object is written
pub record Wrote (x : List ℕ) (o : Obj) (v : Val) (x' : List ℕ) : Type 0 where
  pub holds : (slots : ℕ) (w : Writes) → object_in_store slots o ≡ true → HoldsWrites slots x w → HoldsWrites slots x' ((o, v) ∷ w)
  pub good : OwnGood x'
  pub few : get_or x' 0 0 ≤ get_or x 0 0 + 1
