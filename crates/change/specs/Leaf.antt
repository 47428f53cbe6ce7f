-- What an insert or a delete makes of the leaf for its key, and what follows from there.
use Rattle.std.specs.Prelude.{◌≡◌, List, [], ℕ, Option, None, Some, Result, Ok}
use Rattle.operations.specs.Path.{TreePlan}
use Rattle.change.specs.declared.leaf.Changed.{Changed}
use Rattle.walk.specs.declared.walk.Stop.{Stop}
use Rattle.client.specs.Sets.{held}
use Rattle.client.specs.Lent.{LentList, LentMut, used_in}
use Rattle.walk.specs.Walk.{Course, course, ok_or, walked, carry}
use Rattle.walk.specs.Ask.{Noted}
use Rattle.walk.specs.Down.{turns_in, PathInPart}
use Rattle.change.specs.Up.{Ready, rise_plan}
use Rattle.change.specs.Operated.{Operated}
use Rattle.plans.specs.Plan as P

-- the plan from the leaf's new content on; the path to it stands in a part of the bytes b. Where no leaf changes, the answer is 0
abbrev pub risen : ℕ → List ℕ → Option Changed → TreePlan
risen slots b None = P.done ((0, 0, []), [])
risen slots b (Some c) = rise_plan slots (c.a, 0, []) c.way.top (turns_in b c.way.path) c.way.name c.content

-- the leaf's new content with the path to it, if one changes
abbrev pub LeafReady : ℕ → List ℕ → Option Changed → Type 0
LeafReady slots b None = Unit {0}
LeafReady slots b (Some c) = Ready slots c.way.top (turns_in b c.way.path) c.way.name c.content × PathInPart c.way.path

-- the plan p has been walked down to the leaf
pub record Changes (slots : ℕ) (b u : List ℕ) (p : TreePlan) (r : Result (Option Changed) Stop) (u' : List ℕ) : Type 0 where
  pub asks : walked slots (held b) p (used_in u) ≡ carry (course r) (used_in u') (λ us. walked slots (held b) (risen slots b (ok_or None r)) us)
  pub ready : LeafReady slots b (ok_or None r)
  pub noted : Noted (held b) u'

-- over what the walk is lent
abbrev pub Makes : ℕ → LentList → LentMut → TreePlan → Result (Option Changed) Stop → Type 0
Makes slots part used p r = Changes slots part.entry.now used.entry.now p r used.exit.now

-- from there it is carried up, whatever plan it is
pub record Carries (slots : ℕ) (b x u : List ℕ) (c : Option Changed) (s : Course) (x' u' : List ℕ) : Type 0 where
  pub operated : (p : TreePlan) (u₀ : List ℕ) → Changes slots b u₀ p (Ok c) u → Operated slots (held b) x u₀ p s x' u'

-- over what the walk is lent
abbrev pub CarriesUp : ℕ → LentList → LentMut → LentMut → Option Changed → Course → Type 0
CarriesUp slots part own used c s =
    Carries slots part.entry.now own.entry.now used.entry.now c s own.exit.now used.exit.now
