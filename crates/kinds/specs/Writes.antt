-- A write by value, and what a server stores of it.
use Rattle.std.specs.Prelude.{◌≡◌, Bool, true, cond, ◌||◌, List, [], ℕ, ◌+◌, ◌/◌, ◌≤◌, ◌<◌, eqb, length}
use Rattle.memory.specs.Word.{view}
use Rattle.layout.specs.Space.{Put}
use Rattle.server.specs.declared.place.Place.{Place}
use Rattle.nodes.specs.Object.{object_of, named}
use Rattle.server.specs.Object.{Has}
use Rattle.server.specs.Store.{metadata_step, flag_step, node_step}
use Rattle.client.specs.declared.part.Set.TheVariants.{Reads, Writes}
use Rattle.client.specs.Layout.{ClientWord, limit}
use Rattle.client.specs.Record.{by_number, first_slot, second_slot, last_version}
use Rattle.client.specs.Sets.{number_at, record_at, find}
use Rattle.client.specs.Items.{inner_before_after}
use Rattle.client.specs.Participants.{at_home}
use Rattle.client.specs.Drops.{version_of}
use Rattle.steps.specs.declared.sizes.Sizes.{Sizes}
use Rattle.steps.specs.Whole.{Address, client}
use Rattle.steps.specs.Steps.{in_server, store_write, store_all}
use Rattle.kinds.specs.Parts.{ClientAt}
use Rattle.kinds.specs.Judge.{of_client}
use Rattle.client.specs.Fits.{version_fits, writes_fit}
use Rattle.kinds.specs.Fits.{InSet}
use Rattle.kinds.specs.Locks.{Done}
use Rattle.kinds.specs.declared.writes.Write as code
use Rattle.client.specs.Bounds.{last_node_number, end_of_slots}
use Rattle.server.specs.Layout as Srv

abbrev Rule : Type 0
Rule = (Place → ℕ) → List (Put Place)

-- write i by value
unfoldable pub write_nth : (ClientWord → ℕ) → ℕ → code.Write
write_nth m i =
    let x = number_at m Writes i in
    record { number = x; node = record_at m Writes i; read = version_of m (find m Reads x); inner = inner_before_after m x }

-- what the server s stores of it
unfoldable pub write_step : ℕ → code.Write → Rule
write_step s w p =
    by_number w.number (metadata_step (first_slot w.node) (second_slot w.node) (w.read + 1) p)
    (λ n. node_step s (named n) w.node (w.read + 1) w.inner p)
    (λ n. cond (at_home s w.number) (flag_step (named n) (eqb (first_slot w.node) 1) p) [])

-- does the server s store something of it: "at home and, for a node inner before or after, in every table"
abbrev pub stores_some : ℕ → code.Write → Bool
stores_some s w = at_home s w.number || w.inner

-- where it is stored, the version read has a next one; of a flag none is kept
pub record Storable (s : ℕ) (w : code.Write) : Type 0 where
  pub low : w.number ≤ last_node_number → stores_some s w ≡ true → w.read < last_version

-- ---- one write of a client
pub record Writable (z : Sizes) (m : ClientWord → ℕ) (s i : ℕ) : Type 0 where
  pub has : Has z.slots (object_of (number_at m Writes i))
  pub fits : version_fits m s i ≡ true

-- a server's part with the bytes b, for so many slots, and a write that may be stored there
abbrev pub StorableIn : ℕ → ℕ → code.Write → List ℕ → Type 0
StorableIn slots s w b = (slots ≤ end_of_slots) × Has slots (object_of w.number) × Storable s w × (Srv.part_words slots ≤ length b / 8)

-- memory with the bytes b, a client, a server, and write i of the client that may be stored there
abbrev pub WritableIn : Sizes → List ℕ → ℕ → ℕ → ℕ → Type 0
WritableIn z b c s i = ClientAt z (length b) c s × (i < limit Writes) × Writable z (of_client z (view b) c) s i

-- what is known of all writes that the server s stores
pub record Storing (z : Sizes) (w : List ℕ) (c s : ℕ) : Type 0 where
  pub written : InSet z Writes (of_client z w c)
  pub fits : writes_fit z.slots (of_client z w c) s ≡ true

unfoldable pub StoredNth : Sizes → ℕ → ℕ → ℕ → List ℕ → List ℕ → Type 0
StoredNth z c s i w w' = Done z s (store_write (of_client z w c) s i) w w'

unfoldable pub stores : Sizes → ℕ → ℕ → (Address → ℕ) → List (Put Address)
stores z c s m = in_server z m c s (store_all (λ a. m (client c a)) s)
