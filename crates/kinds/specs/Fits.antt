-- Refusal 10 over all objects read, as code asks it item by item.
use Rattle.std.specs.Prelude.{◌≡◌, Bool, true, ◌&&◌, ◌||◌, not, List, ℕ, ◌<◌, length}
use Rattle.memory.specs.Bit.{bit}
use Rattle.nodes.specs.Object.{object_of}
use Rattle.server.specs.Object.{Has}
use Rattle.client.specs.Bounds.{most_servers}
use Rattle.client.specs.declared.part.Set.{Set}
use Rattle.client.specs.declared.part.Set.TheVariants.{Reads}
use Rattle.client.specs.Layout.{ClientWord, prepared}
use Rattle.client.specs.Sets.{count, number_at}
use Rattle.client.specs.Items.{all_below}
use Rattle.client.specs.Fits.{fit_to_prepare, fit_to_unlock}
use Rattle.steps.specs.declared.sizes.Sizes.{Sizes}
use Rattle.steps.specs.Uses.{Item, locked_at}
use Rattle.steps.specs.Judge.{lock_fits, unlock_fits}
use Rattle.kinds.specs.Parts.{stored_in, StoreIn}
use Rattle.kinds.specs.Judge.{of_client}
use Rattle.memory.specs.Word.{view}

-- every object of a client's set is one of the store
abbrev pub InSet : Sizes → Set → (ClientWord → ℕ) → Type 0
InSet z s m = (i : ℕ) → i < count m s → Has z.slots (object_of (number_at m s i))

pub record Known (z : Sizes) (w : List ℕ) (c : ℕ) : Type 0 where
  pub known : InSet z Reads (of_client z w c)

-- memory with the bytes b that holds a store, with a client of which that is known; and with a server
pub record KnownClient (z : Sizes) (b : List ℕ) (c : ℕ) : Type 0 where
  pub store : StoreIn z (length b)
  pub client : c < z.clients
  pub sets : Known z (view b) c

pub record KnownAt (z : Sizes) (b : List ℕ) (c s : ℕ) : Type 0 where
  pub store : StoreIn z (length b)
  pub client : c < z.clients
  pub server : s < most_servers
  pub sets : Known z (view b) c

-- what a prepare of the client c reads of its own part is in range
pub record FitToPrepare (z : Sizes) (b : List ℕ) (c : ℕ) : Type 0 where
  pub fit : fit_to_prepare z.slots (of_client z (view b) c) ≡ true

-- what an unlocking reads of an item at the server s
unfoldable pub unlock_item : Sizes → List ℕ → ℕ → ℕ → Item → Bool
unlock_item z w low s i = (i.read_fits && i.written_fits) && (not (locked_at low s i) || lock_fits z (stored_in z w) s i.number)

-- ---- at every server at which the transaction is prepared
unfoldable pub unlocks_at : Sizes → List ℕ → ℕ → ℕ → ℕ → Bool
unlocks_at z w c p s = not (bit p s) || (fit_to_unlock z.slots (of_client z w c) && unlock_fits z (stored_in z w) c s)

unfoldable pub unlocks_all : Sizes → List ℕ → ℕ → Bool
unlocks_all z w c = all_below most_servers (unlocks_at z w c (of_client z w c prepared))
