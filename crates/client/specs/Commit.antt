-- Tests of a client's sets: of what was found, of an item.
use Rattle.std.specs.Prelude.{Bool, true, false, ℕ, eqb}
use Rattle.nodes.specs.Found.{Found}
use Rattle.std.specs.Prelude.{Some, None}
use Rattle.client.specs.declared.part.Set.{Set}
use Rattle.client.specs.Layout.{ClientWord, item}
use Rattle.client.specs.Record.{by_number}
use Rattle.client.specs.Sets.{number_at}

-- was it found
abbrev pub is_at : Found → Bool
is_at (Some i) = true
is_at None = false

module _ (m : ClientWord → ℕ) where
  -- is item i an inner node; word 1 of an item is the kind
  unfoldable pub inner_at : Set → ℕ → Bool
  inner_at s i = by_number (number_at m s i) false (λ n. eqb (m (item s i 1)) 2) (λ n. false)
