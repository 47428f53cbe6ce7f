-- A node of 15 keys split, walked.
use Rattle.std.specs.Prelude.{◌≡◌, Bool, true, List, ◌∷◌, ℕ, ◌+◌, ◌≤◌, get_or, Result}
use Rattle.nodes.specs.declared.change.Wide.{Wide}
use Rattle.nodes.specs.Entries.{wide_entries}
use Rattle.nodes.specs.Change.{put_in}
use Rattle.operations.specs.Object.{flag, taken, Writes}
use Rattle.operations.specs.Slot.{take_for, take_node}
use Rattle.operations.specs.Path.{TreePlan}
use Rattle.walk.specs.declared.down.Turn.{Turn}
use Rattle.walk.specs.declared.walk.Stop.{Stop}
use Rattle.client.specs.Layout.{ClientWord}
use Rattle.client.specs.Record.{in_store}
use Rattle.client.specs.Lent.{used_in}
use Rattle.walk.specs.Walk.{course, ok_or, goes, walked, carry}
use Rattle.walk.specs.Ask.{OwnGood, HoldsWrites, Noted}
use Rattle.change.specs.Rise.{went_up, Raised, BothWritten, split_plan}
use Rattle.nodes.specs.Change as N
use Rattle.client.specs.Bounds.{highest_level, keys_to_split}

-- ---- a slot for a half
pub record HalfTaken (slots : ℕ) (m : ClientWord → ℕ) (x u : List ℕ) (n : ℕ) (r : Result ℕ Stop) (x' u' : List ℕ) : Type 0 where
  pub asks : (w : Writes) → HoldsWrites slots x w → (k : ℕ → Writes → TreePlan)
      → walked slots m (take_for slots n w (λ d w'. take_node w' d (k d w'))) (used_in u) ≡ carry (course r) (used_in u') (λ us. walked slots m (k (ok_or 0 r) ((flag (ok_or 0 r), taken true) ∷ w)) us)
  pub holds : goes (course r) ≡ true → (w : Writes) → HoldsWrites slots x w → HoldsWrites slots x' ((flag (ok_or 0 r), taken true) ∷ w)
  pub good : goes (course r) ≡ true → OwnGood x'
  pub noted : Noted m u'
  pub few : get_or x' 0 0 ≤ get_or x 0 0 + 1
  pub inside : goes (course r) ≡ true → in_store slots (ok_or 0 r) ≡ true

-- ---- the halves of a node, written
pub record Overfull (n : Wide) : Type 0 where
  pub full : n.count ≡ keys_to_split
  pub level : n.level ≤ highest_level

pub record Halved (x : List ℕ) (c d : ℕ) (n : Wide) (sep : ℕ) (x' : List ℕ) : Type 0 where
  pub sep_is : sep ≡ (N.split n 0).sep
  pub written : BothWritten x c d (N.split n 0) x'

pub record Divided (x : List ℕ) (b : Turn) (c d : ℕ) (n up : Wide) (x' : List ℕ) : Type 0 where
  pub up_is : up ≡ put_in b.node b.at (N.split n 0).sep d
  pub written : BothWritten x c d (N.split n 0) x'

-- ---- below the root
pub record Splits (slots : ℕ) (m : ClientWord → ℕ) (x u : List ℕ) (l : ℕ) (b : Turn) (c : ℕ) (n : Wide) (r : Result Wide Stop) (x' u' : List ℕ) : Type 0 where
  pub raised : (root : Bool) → Raised slots m x u l root (split_plan slots l b c (wide_entries n)) (went_up r) x' u'
