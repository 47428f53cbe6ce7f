-- Lookup, next and previous, walked.
use Rattle.std.specs.Prelude.{◌≡◌, List, [], cond, ℕ, ◌-◌, get_or}
use Rattle.nodes.specs.declared.node.Node.{Node}
use Rattle.nodes.specs.declared.standing.KeyPlace.{KeyPlace}
use Rattle.nodes.specs.Place.{key_place}
use Rattle.nodes.specs.Node.{keys_of}
use Rattle.operations.specs.Object.{Writes}
use Rattle.operations.specs.Entry.{Entries}
use Rattle.operations.specs.Path.{TreePlan}
use Rattle.walk.specs.declared.walk.Answer.{Answer}
use Rattle.client.specs.Layout.{ClientWord}
use Rattle.client.specs.Lent.{used_in}
use Rattle.walk.specs.Walk.{Course, Going, Ended, Answered, Told, walked}
use Rattle.walk.specs.Ask.{Noted}
use Rattle.plans.specs.Plan as P

-- what comes with an answer only
abbrev pub kept : {A : Type 0} → Course → List A → List A
kept Going l = []
kept (Ended s) l = []
kept (Answered a b) l = l

-- with the writes w and the pairs ps
abbrev pub ended : Course → List ℕ → Writes → Entries → Told
ended s us w ps = record { course = s; used = us; writes = kept s w; pairs = kept s ps }

-- the plan that ends here with an answer
pub record Ends (m : ClientWord → ℕ) (u : List ℕ) (a b : ℕ) (s : Course) (u' : List ℕ) : Type 0 where
  pub same : (slots : ℕ) (w : Writes) (ps : Entries) → walked slots m (P.done ((a, b, ps), w)) (used_in u) ≡ ended s (used_in u') w ps
  pub noted : Noted m u'

-- a plan that writes nothing, walked to its end, with the pairs ps
pub record Walks (slots : ℕ) (m : ClientWord → ℕ) (u : List ℕ) (p : TreePlan) (s : Course) (u' : List ℕ) (ps : Entries) : Type 0 where
  pub same : walked slots m p (used_in u) ≡ ended s (used_in u') [] ps
  pub noted : Noted m u'

-- ---- a key looked up in a leaf
abbrev pub pair_at : Node → KeyPlace → Answer
pair_at n p = cond p.there (record { a = 1; b = get_or n.slots (p.place - 1) 0 }) (record { a = 0; b = 0 })

unfoldable pub look_in : Node → ℕ → Answer
look_in n key = pair_at n (key_place (keys_of n) key)
