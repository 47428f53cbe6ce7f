-- A node moved to a slot of another server: the slot is taken, its node read, the old slot freed.
use Rattle.std.specs.Prelude.{◌≡◌, true, false, List, [], ◌∷◌, ℕ, ◌+◌, ◌≤◌, get_or, Option, None, Some, Result}
use Rattle.nodes.specs.declared.node.Node.{Node}
use Rattle.operations.specs.Object.{meta, node, flag, Val, root, taken, free, Writes}
use Rattle.operations.specs.Slot.{take_on, take_node, release}
use Rattle.operations.specs.Path.{TreePlan}
use Rattle.operations.specs.Migrate.{moved}
use Rattle.walk.specs.declared.walk.Stop.{Stop}
use Rattle.client.specs.Layout.{ClientWord}
use Rattle.client.specs.Record.{in_store, value_of}
use Rattle.client.specs.Lent.{used_in}
use Rattle.walk.specs.Walk.{Course, course, ok_or, goes, walked, carry}
use Rattle.walk.specs.Ask.{OwnGood, HoldsWrites, Noted}

-- "changes the parent, or the metadata for the root": what is written beside the move. The metadata keeps the servers' states
abbrev pub beside : Option ℕ → ℕ → Writes → Writes
beside (Some states) d w = (meta, root d states) ∷ w
beside None d w = w

pub record Beside (x : List ℕ) (b : Option ℕ) (d : ℕ) (x' : List ℕ) : Type 0 where
  pub holds : (slots : ℕ) (w : Writes) → HoldsWrites slots x w → HoldsWrites slots x' (beside b d w)
  pub good : OwnGood x'
  pub few : get_or x' 0 0 ≤ get_or x 0 0 + 1

-- a slot of the server s, above a slot number: taken, and its node is free
pub record Placed (slots : ℕ) (m : ClientWord → ℕ) (x u : List ℕ) (s slot : ℕ) (r : Result ℕ Stop) (x' u' : List ℕ) : Type 0 where
  pub asks : (w : Writes) → HoldsWrites slots x w → (k : ℕ → Writes → TreePlan)
      → walked slots m (take_on slots (s ∷ []) slot w (λ d w'. take_node w' d (k d w'))) (used_in u)
      ≡ carry (course r) (used_in u') (λ us. walked slots m (k (ok_or 0 r) ((flag (ok_or 0 r), taken true) ∷ w)) us)
  pub holds : goes (course r) ≡ true → (w : Writes) → HoldsWrites slots x w → HoldsWrites slots x' ((flag (ok_or 0 r), taken true) ∷ w)
  pub good : goes (course r) ≡ true → OwnGood x'
  pub few : get_or x' 0 0 ≤ get_or x 0 0 + 1
  pub inside : goes (course r) ≡ true → in_store slots (ok_or 0 r) ≡ true
  pub noted : Noted m u'

-- the node n of the name nm gets the name d: its old slot is freed
pub record Left (slots : ℕ) (m : ClientWord → ℕ) (x u : List ℕ) (nm d : ℕ) (n : Node) (b : Option ℕ) (s : Course) (x' u' : List ℕ) : Type 0 where
  pub asks : (w : Writes) → HoldsWrites slots x w → (k : Writes → TreePlan)
      → walked slots m (release (beside b d w) nm (λ w'. k ((node d, value_of (node nm) n) ∷ w'))) (used_in u)
      ≡ carry s (used_in u') (λ us. walked slots m (k ((node d, value_of (node nm) n) ∷ (node nm, free) ∷ (flag nm, taken false) ∷ beside b d w)) us)
  pub holds : goes s ≡ true → (w : Writes) → HoldsWrites slots x w → HoldsWrites slots x' ((node d, value_of (node nm) n) ∷ (node nm, free) ∷ (flag nm, taken false) ∷ beside b d w)
  pub good : goes s ≡ true → OwnGood x'
  pub few : goes s ≡ true → get_or x' 0 0 ≤ get_or x 0 0 + 4
  pub noted : Noted m u'

-- the writes of a move of the node n to the slot d
abbrev pub moves : ℕ → Val → Option ℕ → ℕ → Writes
moves n v b d = (node d, v) ∷ (node n, free) ∷ (flag n, taken false) ∷ beside b d ((flag d, taken true) ∷ [])

-- the node n of the name nm goes to the server s; b: if it is the root, the states of the servers that the metadata has
pub record Moved (slots : ℕ) (m : ClientWord → ℕ) (x u : List ℕ) (nm s : ℕ) (n : Node) (b : Option ℕ) (r : Result ℕ Stop) (x' u' : List ℕ) : Type 0 where
  pub asks : HoldsWrites slots x [] → (k : ℕ → Writes → TreePlan)
      → walked slots m (moved slots nm s (value_of (node nm) n) (beside b) k) (used_in u)
      ≡ carry (course r) (used_in u') (λ us. walked slots m (k (ok_or 0 r) (moves nm (value_of (node nm) n) b (ok_or 0 r))) us)
  pub holds : goes (course r) ≡ true → HoldsWrites slots x [] → HoldsWrites slots x' (moves nm (value_of (node nm) n) b (ok_or 0 r))
  pub good : goes (course r) ≡ true → OwnGood x'
  pub few : goes (course r) ≡ true → get_or x' 0 0 ≤ 5
  pub noted : Noted m u'
