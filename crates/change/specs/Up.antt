-- The new content of a leaf carried up its path, walked.
use Rattle.std.specs.Prelude.{◌≡◌, List, [], ℕ, ◌-◌, ◌≤◌, length}
use Rattle.nodes.specs.declared.change.Wide.{Wide}
use Rattle.nodes.specs.Entries.{wide_entries}
use Rattle.operations.specs.Object.{Ans, Writes}
use Rattle.operations.specs.Path.{TreePlan}
use Rattle.operations.specs.Change.{up}
use Rattle.walk.specs.declared.down.Turn.{Turn}
use Rattle.walk.specs.Down.{low, branches, trail, All, Linked}
use Rattle.change.specs.Rise.{Content}
use Rattle.client.specs.Bounds.{highest_level, level_count}

-- the plan from the level l on: the inner nodes of the path above it, and the new content of the node of that level
abbrev pub from_level : ℕ → Ans → ℕ → List Turn → ℕ → Writes → ℕ → Wide → TreePlan
from_level slots a top path l w c n = let bs = trail path l (top - l) in up slots a l (branches bs) w c (wide_entries n (low bs))

unfoldable pub rise_plan : ℕ → Ans → ℕ → List Turn → ℕ → Wide → TreePlan
rise_plan slots a top path c n = from_level slots a top path 0 [] c n

-- a leaf's new content, and the path to it
pub record Ready (slots top : ℕ) (path : List Turn) (c : ℕ) (n : Wide) : Type 0 where
  pub high : top ≤ highest_level
  pub size : length path ≡ level_count
  pub good : All (trail path 0 (top - 0))
  pub linked : Linked slots 0 c (trail path 0 (top - 0))
  pub content : Content 0 n
