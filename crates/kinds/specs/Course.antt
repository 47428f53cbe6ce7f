-- The course of a commit: sets of servers, and one field noted.
use Rattle.std.specs.Prelude.{Bool, true, ◌||◌, not, List, [], ◌∷◌, ℕ}
use Rattle.memory.specs.Bit.{bit, put_bit}
use Rattle.layout.specs.Space.{Put, put}
use Rattle.client.specs.Bounds.{most_servers}
use Rattle.client.specs.Layout.{ClientWord, field, participants}
use Rattle.steps.specs.declared.sizes.Sizes.{Sizes}
use Rattle.steps.specs.Steps.{covers}

-- the server t is not one of the set p, or one of q
unfoldable pub covered : ℕ → ℕ → ℕ → Bool
covered p q t = not (bit p t) || bit q t

-- all participants are in the set of field i, once the server s is
abbrev pub covers_with : Sizes → (ClientWord → ℕ) → ℕ → ℕ → Bool
covers_with z m i s = covers most_servers (m participants) (put_bit true (m (field i)) s)

-- one field of a client's part
unfoldable pub mark : ℕ → ℕ → (ClientWord → ℕ) → List (Put ClientWord)
mark i v m = put (field i) v ∷ []
