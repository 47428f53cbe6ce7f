-- One level of a change, walked.
use Rattle.std.specs.Prelude.{◌≡◌, List, [], ◌∷◌, ℕ, length}
use Rattle.std.proofs.Math.Decide.{dec_le}
use Rattle.base.specs.Test.{ifd}
use Rattle.nodes.specs.declared.change.Wide.{Wide}
use Rattle.nodes.specs.Change.{narrow}
use Rattle.operations.specs.Object.{node, Ans, Writes}
use Rattle.operations.specs.Entry.{Entries, node_value, fewest_entries, most_entries}
use Rattle.operations.specs.Path.{TreePlan, Branch}
use Rattle.operations.specs.Change.{Go, split, neighbour, up}
use Rattle.walk.specs.declared.down.Turn.{Turn}
use Rattle.client.specs.Layout.{ClientWord}
use Rattle.client.specs.Record.{value_of}
use Rattle.client.specs.Sets.{held}
use Rattle.client.specs.Lent.{LentList, LentMut, used_in}
use Rattle.walk.specs.Walk.{Course, walked}
use Rattle.walk.specs.Lookup.{ended}
use Rattle.walk.specs.Ask.{Noted}
use Rattle.change.specs.Rise.{NodeWritten, in_parent}
use Rattle.plans.specs.Plan as P

-- ---- the plans
-- below the root: "a non-root node" of 7 to 14 keys, of 15, of 6
unfoldable pub level_plan : ℕ → Ans → ℕ → Turn → ℕ → (ℕ → Entries) → ℕ → List Branch → Writes → Go → TreePlan
level_plan slots a l b c es lo fs w go =
    let f = in_parent b lo in
    let E = es f.key in
    ifd (dec_le (fewest_entries l) (length E))
    (ifd (dec_le (length E) (most_entries l)) (P.done (a, (node c, node_value l E) ∷ w)) (split slots go l w f c E))
    (neighbour a l fs go w f c E f.post)

unfoldable pub top_plan : ℕ → Ans → ℕ → ℕ → Entries → Writes → TreePlan
top_plan slots a l c es w = up slots a l [] w c es

-- ---- a node written, and the answer
pub record Settled (m : ClientWord → ℕ) (x u : List ℕ) (c : ℕ) (n : Wide) (a b : ℕ) (s : Course) (x' u' : List ℕ) : Type 0 where
  pub ends : (slots : ℕ) (w : Writes) → walked slots m (P.done ((a, b, []), (node c, value_of (node c) (narrow n)) ∷ w)) (used_in u) ≡ ended s (used_in u') ((node c, value_of (node c) (narrow n)) ∷ w) []
  pub written : NodeWritten x c (narrow n) x'
  pub noted : Noted m u'

-- over what the walk is lent
abbrev pub Settles : LentList → LentMut → LentMut → ℕ → Wide → ℕ → ℕ → Course → Type 0
Settles part own used c n a b s = Settled (held part.entry.now) own.entry.now used.entry.now c n a b s own.exit.now used.exit.now
