-- The course of a commit, in the fields of a transaction.
use Rattle.std.specs.Prelude.{true, List, [], ◌∷◌, ℕ}
use Rattle.memory.specs.Bit.{put_bit}
use Rattle.layout.specs.Space.{Put, put}
use Rattle.client.specs.Layout.{ClientWord, phase, decided_phase}

-- server s is put into the set a: it has prepared, or applied
unfoldable pub noted : ClientWord → ℕ → (ClientWord → ℕ) → List (Put ClientWord)
noted a s m = put a (put_bit true (m a) s) ∷ []

-- "The last prepare is the decision."
unfoldable pub decided : (ClientWord → ℕ) → List (Put ClientWord)
decided m = put phase decided_phase ∷ []
