-- A root of 15 keys split, walked.
use Rattle.std.specs.Prelude.{◌≡◌, true, List, ◌∷◌, ℕ, ◌+◌, ◌≤◌, get_or, Result}
use Rattle.nodes.specs.declared.change.Wide.{Wide}
use Rattle.nodes.specs.Node.{parent_of}
use Rattle.operations.specs.Object.{node, flag, taken, Ans, Writes}
use Rattle.operations.specs.Slot.{take_for, take_node}
use Rattle.operations.specs.Entry.{Entries}
use Rattle.operations.specs.Path.{TreePlan}
use Rattle.operations.specs.Change.{split_root}
use Rattle.change.specs.declared.grow.Two.{Two}
use Rattle.walk.specs.declared.walk.Stop.{Stop}
use Rattle.client.specs.Layout.{ClientWord}
use Rattle.client.specs.Record.{in_store, value_of}
use Rattle.client.specs.Lent.{used_in}
use Rattle.walk.specs.Walk.{Course, course, ok_or, goes, walked, carry}
use Rattle.walk.specs.Ask.{OwnKept, OwnGood, HoldsWrites, Noted}
use Rattle.nodes.specs.Change as N

-- ---- two slots
abbrev pub two_in : Result Two Stop → Two
two_in = ok_or (record { left = 0; right = 0 })

abbrev pub two_flags : Two → Writes → Writes
two_flags r w = (flag r.right, taken true) ∷ (flag r.left, taken true) ∷ w

pub record TwoTaken (slots : ℕ) (m : ClientWord → ℕ) (x u : List ℕ) (n : ℕ) (r : Result Two Stop) (x' u' : List ℕ) : Type 0 where
  pub asks : (w : Writes) → HoldsWrites slots x w → (k : ℕ → ℕ → Writes → TreePlan)
      → walked slots m (take_for slots n w (λ c w₁. take_for slots n w₁ (λ d w₂. k c d w₂))) (used_in u) ≡ carry (course r) (used_in u') (λ us. walked slots m (k (two_in r).left (two_in r).right (two_flags (two_in r) w)) us)
  pub holds : goes (course r) ≡ true → (w : Writes) → HoldsWrites slots x w → HoldsWrites slots x' (two_flags (two_in r) w)
  pub good : goes (course r) ≡ true → OwnGood x'
  pub noted : Noted m u'
  pub few : get_or x' 0 0 ≤ get_or x 0 0 + 2
  pub left_in : goes (course r) ≡ true → in_store slots (two_in r).left ≡ true
  pub right_in : goes (course r) ≡ true → in_store slots (two_in r).right ≡ true

-- ---- their nodes
pub record BothFree (slots : ℕ) (m : ClientWord → ℕ) (x u : List ℕ) (c d : ℕ) (s : Course) (u' : List ℕ) : Type 0 where
  pub asks : (w : Writes) → HoldsWrites slots x w → (k : TreePlan) → walked slots m (take_node w c (take_node w d k)) (used_in u) ≡ carry s (used_in u') (λ us. walked slots m k us)
  pub noted : Noted m u'

-- ---- both
pub record HalvesTaken (slots : ℕ) (m : ClientWord → ℕ) (x u : List ℕ) (n : ℕ) (r : Result Two Stop) (x' u' : List ℕ) : Type 0 where
  pub asks : (w : Writes) → HoldsWrites slots x w → (k : ℕ → ℕ → Writes → TreePlan)
      → walked slots m (take_for slots n w (λ c w₁. take_for slots n w₁ (λ d w₂. take_node w₂ c (take_node w₂ d (k c d w₂))))) (used_in u)
      ≡ carry (course r) (used_in u') (λ us. walked slots m (k (two_in r).left (two_in r).right (two_flags (two_in r) w)) us)
  pub holds : goes (course r) ≡ true → (w : Writes) → HoldsWrites slots x w → HoldsWrites slots x' (two_flags (two_in r) w)
  pub good : goes (course r) ≡ true → OwnGood x'
  pub noted : Noted m u'
  pub few : get_or x' 0 0 ≤ get_or x 0 0 + 2
  pub left_in : goes (course r) ≡ true → in_store slots (two_in r).left ≡ true
  pub right_in : goes (course r) ≡ true → in_store slots (two_in r).right ≡ true

-- ---- the halves and the root, written
pub record Grown (x : List ℕ) (r c d : ℕ) (n : Wide) (x' : List ℕ) : Type 0 where
  pub holds : (slots : ℕ) (w : Writes) → in_store slots r ≡ true → in_store slots c ≡ true → in_store slots d ≡ true → HoldsWrites slots x w
      → HoldsWrites slots x' ((node r, value_of (node r) (parent_of (n.level + 1) 0 c (N.split n 0).sep d))
      ∷ (node d, value_of (node d) (N.split n 0).right) ∷ (node c, value_of (node c) (N.split n 0).left) ∷ w)
  pub kept : OwnKept x'

-- ---- the root
unfoldable pub root_split : ℕ → Ans → ℕ → ℕ → Entries → Writes → TreePlan
root_split slots a l r es w = split_root slots a l w r es
