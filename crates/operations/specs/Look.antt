-- Lookup, next, previous and list: what they read and answer. They write nothing.
use Rattle.std.specs.Prelude.{cond, List, [], ◌∷◌, ◌++◌, ℕ, zero, suc, leb, length, take}
use Rattle.std.proofs.Math.Option.{none, some}
use Rattle.operations.specs.Object.{Ans}
use Rattle.operations.specs.Map.{said, listed}
use Rattle.operations.specs.Entry.{Entries, value_in, above_in, below_in, from_in}
use Rattle.operations.specs.Path.{TreePlan, kid, Branch, from_root}
use Rattle.plans.specs.Plan as P

-- "Lookup of a key there: a 1, b the value."
abbrev pub lookup_plan : ℕ → TreePlan
lookup_plan key = from_root key (λ fs n es. P.done (said (value_in key es), []))

-- LEAVES IN A ROW: what is looked for from the leaf of a key on, to one side: how many pairs, which ones a leaf has (the nearest first), and what
-- is answered by those found
pub record Search : Type 0 where
  pub wanted : ℕ
  pub in_leaf : Entries → Entries
  pub answer : Entries → Ans

-- what follows, by the pairs found so far
abbrev pub Onward : Type 0
Onward = Entries → TreePlan

-- the answer by the pairs found, of which no more count than were wanted
abbrev pub told : Search → Onward
told q found = P.done (q.answer (take q.wanted found), [])

-- it is given as soon as so many are found
abbrev pub enough : Search → Onward → Onward
enough q on found = cond (leb q.wanted (length found)) (told q found) (on found)

-- what is done at each of some children, from the left or from the right
abbrev pub Visit : Type 0
Visit = (ℕ → ℕ → Onward → Onward) → Entries → Onward → Onward

-- the children from the left
abbrev pub rightward : Visit
rightward f [] on = on
rightward f (e ∷ es) on = f e.0 e.1 (rightward f es on)

-- the children from the right
abbrev pub leftward : Visit
leftward f [] on = on
leftward f (e ∷ es) on = leftward f es (f e.0 e.1 on)

-- the leaves below the node n of a level, in the order of t
abbrev pub seek : Search → Visit → ℕ → ℕ → ℕ → Onward → Onward
seek q t zero lo n on found = kid [] zero lo n (λ es. enough q on (found ++ q.in_leaf es))
seek q t (suc l) lo n on found = kid [] (suc l) lo n (λ es. t (seek q t l) es on found)

-- "next and previous, if the leaf has none, go on down the nearest branch on that side"; where no branch is left there are no more
abbrev pub seek_up : Search → Visit → (Branch → Entries) → ℕ → List Branch → Onward
seek_up q t side l [] = told q
seek_up q t side l (f ∷ fs) = t (seek q t l) (side f) (seek_up q t side (suc l) fs)

-- the leaf of the key, and then the leaves that t visits on that side of the path
abbrev pub from_leaf : Search → Visit → (Branch → Entries) → ℕ → TreePlan
from_leaf q t side key = from_root key (λ fs n es. enough q (seek_up q t side zero fs) (q.in_leaf es))

-- "Next and previous: a 1, b the nearest key strictly above or below, if any."
abbrev pub nearest : Entries → Ans
nearest [] = said none
nearest (e ∷ es) = said (some e.0)

-- one pair is looked for
abbrev pub one_of : (Entries → Entries) → Search
one_of f = record { wanted = 1; in_leaf = f; answer = nearest }

-- the nearest key strictly above
abbrev pub next_plan : ℕ → TreePlan
next_plan key = from_leaf (one_of (above_in key)) rightward (λ f. f.post) key

-- the nearest key strictly below
abbrev pub previous_plan : ℕ → TreePlan
previous_plan key = from_leaf (one_of (below_in key)) leftward (λ f. f.pre) key

-- "up to a given count of pairs .., from the given key upward"
abbrev pub listing : ℕ → ℕ → Search
listing key count = record { wanted = count; in_leaf = from_in key; answer = listed }

-- "It reads on as next does."
abbrev pub list_plan : ℕ → ℕ → TreePlan
list_plan key count = from_leaf (listing key count) rightward (λ f. f.post) key
