-- Refusal 10 at a server, of one item: a lock and those that hold it.
use Rattle.std.specs.Prelude.{◌≡◌, Bool, ◌&&◌, ◌||◌, not, List, ℕ, length}
use Rattle.memory.specs.Bit.{bit}
use Rattle.memory.specs.Word.{view}
use Rattle.server.specs.declared.place.Place.{Place}
use Rattle.server.specs.Lock.{lock_in_range}
use Rattle.client.specs.Layout.{ClientWord}
use Rattle.client.specs.Participants.{participants_of}
use Rattle.steps.specs.declared.sizes.Sizes.{Sizes}
use Rattle.steps.specs.Whole.{server, client}
use Rattle.steps.specs.Judge.{has_transaction, holders_fit}
use Rattle.kinds.specs.Parts.{stored_in, AtClient}
use Rattle.layout.specs.Space.{mem}
use Rattle.server.specs.Layout as Srv

-- what a client's part holds, and a server's
abbrev pub of_client : Sizes → List ℕ → ℕ → ClientWord → ℕ
of_client z w c = λ a. stored_in z w (client c a)

abbrev pub of_server : Sizes → List ℕ → ℕ → Place → ℕ
of_server z w s = λ a. stored_in z w (server s a)

-- what a server's part with the bytes b holds
abbrev pub held_by : Sizes → List ℕ → Place → ℕ
held_by z b = mem Srv.places (Srv.server_block z.slots) (view b)

-- memory with the bytes b and a client whose participants are these
abbrev pub Awaited : Sizes → List ℕ → ℕ → ℕ → Type 0
Awaited z b c servers = AtClient z (length b) c × (servers ≡ participants_of (of_client z (view b) c))

-- a reader that the word names
unfoldable pub reader_fits : Sizes → List ℕ → ℕ → ℕ → Bool
reader_fits z w x d = not (bit x d) || has_transaction z (stored_in z w) d

-- is the word v of a lock on the object x in range, and are those that it names there
unfoldable pub word_fits : Sizes → List ℕ → ℕ → ℕ → Bool
word_fits z w x v = lock_in_range z.clients v && holders_fit z (stored_in z w) x v
