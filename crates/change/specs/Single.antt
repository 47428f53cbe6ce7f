-- An operation that writes one object or none, walked to its end.
use Rattle.std.specs.Prelude.{◌≡◌, Bool, false, ◌&&◌, ◌||◌, List, [], ◌∷◌, ℕ, ◌≤◌, ◌<◌, eqb, leb, Option, None, Some, Result, Ok, Err}
use Rattle.operations.specs.Operation.{reading}
use Rattle.operations.specs.Path.{TreePlan}
use Rattle.change.specs.declared.leaf.Changed.{Changed}
use Rattle.change.specs.declared.single.OneWrite.{OneWrite}
use Rattle.change.specs.declared.single.Single.{Single}
use Rattle.walk.specs.declared.walk.Stop.{Stop}
use Rattle.client.specs.Layout.{ClientWord}
use Rattle.client.specs.Sets.{held}
use Rattle.client.specs.Lent.{Entry}
use Rattle.client.specs.Bounds.{end_of_names, most_keys, fewest_keys}
use Rattle.client.specs.Work.{waiting}
use Rattle.walk.specs.Walk.{Course, Going, Ended, Answered, goes}
use Rattle.change.specs.Operated.{Written}
use Rattle.change.specs.Leaf.{Changes}
use Rattle.change.specs.Work.{Enters}

-- what it writes
abbrev pub single_entries : Option OneWrite → List Entry
single_entries None = []
single_entries (Some w) = (w.number, w.node) ∷ []

abbrev pub FewKeys : Option OneWrite → Type 0
FewKeys None = Unit {0}
FewKeys (Some w) = w.node.count ≤ most_keys

-- how far it has come: with None there is more to write
abbrev pub single_course : Result (Option Single) Stop → Course
single_course (Ok None) = Going
single_course (Ok (Some s)) = Answered s.answer.a s.answer.b
single_course (Err s) = Ended s

abbrev pub write_in : Result (Option Single) Stop → Option OneWrite
write_in (Ok None) = None
write_in (Ok (Some s)) = s.write
write_in (Err s) = None

-- a leaf of so many keys is written as it is: 7 to 14, or up to 14 in the root. The root's level is top
unfoldable pub in_range : ℕ → ℕ → Bool
in_range top count = leb count most_keys && (eqb top 0 || leb fewest_keys count)

-- a leaf that changes has a name
abbrev pub Named : Option Changed → Type 0
Named None = Unit {0}
Named (Some c) = c.way.name < end_of_names

-- a changed leaf is written, whatever plan it is, unless there is more to write
pub record LeafWritten (b u : List ℕ) (c : Option Changed) (r : Result (Option Single) Stop) (u' : List ℕ) : Type 0 where
  pub written : goes (single_course r) ≡ false → (slots : ℕ) (p : TreePlan) (u₀ : List ℕ) → Changes slots b u₀ p (Ok c) u
      → Written slots (held b) u₀ p (single_course r) (single_entries (write_in r)) u'
  pub few : FewKeys (write_in r)

-- the waiting operation is walked to its end, unless there is more to write
pub record Singly (slots : ℕ) (m : ClientWord → ℕ) (u : List ℕ) (r : Result (Option Single) Stop) (u' : List ℕ) : Type 0 where
  pub written : goes (single_course r) ≡ false → Written slots m u (reading slots (waiting m)) (single_course r) (single_entries (write_in r)) u'
  pub few : FewKeys (write_in r)

-- its work step has ended, unless there is more to write: then nothing of the result counts
pub record WorksSingly (slots : ℕ) (m : ClientWord → ℕ) (r : Result (Option Single) Stop) (u₀ u : List ℕ) : Type 0 where
  pub enters : goes (single_course r) ≡ false → Enters slots m (single_course r) (single_entries (write_in r)) u₀ u
