-- A look at one server: its vector, and the slot that is chosen there.
use Rattle.std.specs.Prelude.{◌≡◌, true, cond, List, ◌∷◌, ℕ, length}
use Rattle.std.proofs.Math.Option.{Option, none, some}
use Rattle.nodes.specs.Found.{Found}
use Rattle.std.specs.Prelude.{Some, None}
use Rattle.nodes.specs.Found.{Inside}
use Rattle.operations.specs.Object.{vector, fetched, Val, flags, Writes}
use Rattle.operations.specs.Slot.{chosen, search}
use Rattle.operations.specs.Path.{TreePlan}
use Rattle.client.specs.Bounds.{end_of_slots}
use Rattle.walk.specs.declared.walk.Stop.TheVariants.{LacksVector}
use Rattle.client.specs.Layout.{ClientWord}
use Rattle.client.specs.Vectors.{seen_words, is_fetched}
use Rattle.client.specs.Lent.{used_in}
use Rattle.walk.specs.Walk.{Course, Going, Ended, told, goes, walked, carry}
use Rattle.walk.specs.Ask.{HoldsWrites, Noted}
use Rattle.plans.specs.Plan as P
use Rattle.nodes.specs.Flags as N

-- ---- the statements
-- the vector that the client has of the server s
abbrev pub seen_vector : ℕ → (ClientWord → ℕ) → ℕ → Val
seen_vector slots m s = flags (N.flags_in slots (seen_words m s))

-- the question for it, and once it is there the one for a vector that this transaction fetched
pub record VectorAsked (m : ClientWord → ℕ) (u : List ℕ) (s : ℕ) (t : Course) (u' : List ℕ) : Type 0 where
  pub asks : (slots : ℕ) (k : Val → TreePlan)
      → walked slots m (P.ask (vector s) k) (used_in u) ≡ carry t (used_in u') (λ us. walked slots m (k (seen_vector slots m s)) us)
  pub again : goes t ≡ true → (slots : ℕ) (k : Val → TreePlan)
      → walked slots m (P.ask (fetched s) k) (used_in u')
      ≡ cond (is_fetched m s) (walked slots m (k (seen_vector slots m s)) (used_in u')) (told (Ended (LacksVector s)) (used_in u'))
  pub noted : Noted m u'
  pub long : length u' ≡ length u

-- "a server is passed over only by a vector that this transaction fetched"
unfoldable pub passes : (ClientWord → ℕ) → ℕ → Course
passes m s = cond (is_fetched m s) Going (Ended (LacksVector s))

abbrev pub slot_in : Found → Option ℕ
slot_in (Some i) = some i
slot_in None = none

-- a look at the server s, the next of those that are looked at: the search goes on with the slot, or with the others
pub record Looked (slots : ℕ) (m : ClientWord → ℕ) (x u : List ℕ) (s slot : ℕ) (t : Course) (f : Found) (u' : List ℕ) : Type 0 where
  pub asks : (w : Writes) → HoldsWrites slots x w → (ss : List ℕ) (k : ℕ → TreePlan)
      → walked slots m (search slots w slot (s ∷ ss) k) (used_in u) ≡ carry t (used_in u') (λ us. walked slots m (chosen s (slot_in f) k (search slots w slot ss k)) us)
  pub near : Inside f end_of_slots
  pub noted : Noted m u'
  pub long : length u' ≡ length u
