-- A fetch's check, as code makes it: "A fetch checks at that server what the transaction has read".
use Rattle.std.specs.Prelude.{Bool, cond, List, map, ℕ, ◌+◌, ◌-◌, ◌≤◌, ◌<◌, leb, ltb, length, get_or}
use Rattle.memory.specs.Word.{view}
use Rattle.server.specs.declared.lock.Use.TheVariants.{Fetch}
use Rattle.nodes.specs.Object.{object_of}
use Rattle.server.specs.Object.{Has}
use Rattle.server.specs.Check.{can_check, checked, held, finding_number}
use Rattle.client.specs.Bounds.{most_servers}
use Rattle.client.specs.declared.part.Set.TheVariants.{Reads}
use Rattle.client.specs.Layout.{ClientWord, reads_count, limit}
use Rattle.client.specs.Sets.{count}
use Rattle.client.specs.Have.{copied}
use Rattle.client.specs.Lent.{InUse, used_in}
use Rattle.steps.specs.declared.sizes.Sizes.{Sizes}
use Rattle.steps.specs.Uses.{Item, item_of, item_object, deciding}
use Rattle.steps.specs.Judge.{lock_fits}
use Rattle.steps.specs.Servers.{there}
use Rattle.steps.specs.Steps.{fetch_items, fetch_finding}
use Rattle.kinds.specs.Parts.{StoreIn, stored_in, AtClient}
use Rattle.kinds.specs.Items.{read_item}
use Rattle.kinds.specs.Judge.{of_client, of_server}

-- a copy in use, as an object read
unfoldable pub used_item : (ClientWord → ℕ) → ℕ → Item
used_item m x = item_of m x (copied m x).node

-- how many objects are read: the read set's, and the copies in use, whose list is u
abbrev pub known_count : (ClientWord → ℕ) → List ℕ → ℕ
known_count m u = count m Reads + get_or u 0 0

-- object i of those read: the read set's, then the copies in use
unfoldable pub known_at : (ClientWord → ℕ) → List ℕ → ℕ → Item
known_at m us i = cond (ltb i (count m Reads)) (read_item m i) (used_item m (get_or us (i - count m Reads) 0))

-- memory with the bytes b, a client, and the list u of its copies in use: object i is one of those read; and no more are read than may be
abbrev pub ReadingOne : Sizes → List ℕ → ℕ → List ℕ → ℕ → Type 0
ReadingOne z b c u i = AtClient z (length b) c × InUse u × (i < known_count (of_client z (view b) c) u)

abbrev pub ReadingFew : Sizes → List ℕ → ℕ → List ℕ → Type 0
ReadingFew z b c u = AtClient z (length b) c × InUse u × (of_client z (view b) c reads_count ≤ limit Reads)

-- they are all of the store
pub record AllKnown (z : Sizes) (w : List ℕ) (c : ℕ) (us : List ℕ) : Type 0 where
  pub known : (i : ℕ) → i < count (of_client z w c) Reads + length us → Has z.slots (object_of (known_at (of_client z w c) us i).number)

-- what the check of a fetch from the server s knows
pub record Checking (z : Sizes) (b : List ℕ) (c s : ℕ) (u : List ℕ) : Type 0 where
  pub holds : StoreIn z (length b)
  pub client : c < z.clients
  pub server : s < most_servers
  pub in_use : InUse u
  pub reads : of_client z (view b) c reads_count ≤ limit Reads
  pub known : AllKnown z (view b) c (used_in u)

-- the same before it is known from which server
abbrev pub Fetching : Sizes → List ℕ → ℕ → List ℕ → Type 0
Fetching z b c u = Checking z b c 0 u

-- can the server s check the item
abbrev pub checks : ℕ → Item → Bool
checks s i = can_check s (item_object i) i.inner_read

unfoldable pub fetch_fault : Sizes → List ℕ → ℕ → ℕ → Item → ℕ
fetch_fault z w c s i =
    cond i.read_fits
    (cond (checks s i)
    (cond (lock_fits z (stored_in z w) s i.number) (finding_number (checked (item_object i) i.inner_read i.mark c Fetch (of_server z w s))) 10) 0) 10

-- what Steps.checked-fetch finds
unfoldable pub items_found : Sizes → List ℕ → ℕ → ℕ → List ℕ → ℕ
items_found z w c s us = deciding (map (fetch_finding z (stored_in z w) c us s) (fetch_items z (stored_in z w) c us))

-- ---- by number, as a check comes to it: and of an absent server 1
unfoldable pub reached : Sizes → List ℕ → ℕ → ℕ → List ℕ → ℕ
reached z w c s us = cond (there (stored_in z w) s) (items_found z w c s us) 1

-- 4: one too many is read
abbrev pub room_of : Sizes → List ℕ → ℕ → List ℕ → ℕ
room_of z w c us = cond (leb (limit Reads) (of_client z w c reads_count + length us)) 4 0

-- the object fetched, of the number x: busy by a writer, or one too many
unfoldable pub gate_of : Sizes → List ℕ → ℕ → ℕ → ℕ → List ℕ → ℕ
gate_of z w c s x us =
    cond (lock_fits z (stored_in z w) s x)
    (cond (held (object_of x) c Fetch (of_server z w s)) 2 (room_of z w c us)) 10
